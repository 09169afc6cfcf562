use Rattle.std.proofs.Common.{take, arith}
use Rattle.std.proofs.lemmas.List.{length-take}
use Rattle.dtx_recipes.proofs.SoftLemmas.{length-groups}
use Rattle.dtx_jobs.proofs.softening.Softening.flush.Goals as goal

pub returns-clause-fields : goal.returns-clause-fields
returns-clause-fields c =
    let rows = take c.args.count c.args.self.now.field.items in
    let long = length-take c.args.count c.args.self.now.field.items in
    let groups = length-groups rows in
    omega (arith, long, groups, c.requires.few, c.requires.room)
