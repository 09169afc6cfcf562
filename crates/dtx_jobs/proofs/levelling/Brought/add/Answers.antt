use Rattle.dtx_jobs.proofs.LevelLemmas.{brought_with}
use Rattle.dtx_jobs.proofs.levelling.Brought.add.Goals as goal

pub returns-in-Some-clause-symbols : goal.returns-in-Some-clause-symbols
returns-in-Some-clause-symbols c =
    brought_with c.args.self.now.zeros c.args.leveller.now.zeros c.args.self.now.symbols c.args.leveller.now.given
    c.given.result.now c.zeros.result c.push.new.self c.requires.first c.zeros.ensures c.given.ensures c.push.ensures

pub returns-in_default-clause-symbols : goal.returns-in_default-clause-symbols
returns-in_default-clause-symbols c =
    brought_with c.args.self.now.zeros c.args.leveller.now.zeros c.args.self.now.symbols c.args.leveller.now.given
    c.given.result.now c.zeros.result c.push.new.self c.requires.first c.zeros.ensures c.given.ensures c.push.ensures
