use Rattle.dtx_acquire.proofs.AgreementLemmas.{agrees_by}
use Rattle.dtx_acquire.proofs.upright.UprightSyncTest.passes.Goals as goal

pub returns : goal.returns
returns c = agrees_by c.args.symbols.now c.args.place c.args.count c.requires.room c.requires.count
