use Rattle.std.proofs.Common.{inl, inr, rules}
use Rattle.dtx_forms.proofs.SmallFile.{all_read}
use Rattle.dtx_forms.proofs.plan_file.read_all.Goals.{then-ended-via-then-ended}
use Rattle.dtx_forms.proofs.plan_file.read_all.Goals.{then-ended-via-else-ended+then-len-ge-SMALL}
use Rattle.dtx_forms.proofs.plan_file.read_all.Goals as goal

pub returns-then-ended-clause-told : goal.returns-then-ended-clause-told
returns-then-ended-clause-told g c =
    let told = g.S.Shelf.files c.args.shelf.now in
    let old = c.loop-ended.bytes.items in
    let new = c.read_on.new.bytes.items in
    let read = all_read told c.args.name.now c.args.number old new c.in-Ok.ended
    c.loop-ended.invariant.front (search rules) in
    elim c.then-ended.branch [
      | then-ended-via-then-ended w ↦ read (inl (search rules))
      | then-ended-via-else-ended+then-len-ge-SMALL w ↦ read (inr (search rules))
    ]
