use Rattle.dtx_erase.proofs.Quiet.{none_missing, none_set}
use Rattle.dtx_erase.proofs.mark_side.MarkSide.stays_quiet.Goals as goal

pub returns-then-self-clause-none : goal.returns-then-self-clause-none
returns-then-self-clause-none c = λ t.
    none_missing c.args.segments.now c.told-segments
    (rw (← c.as_flattened.ensures.value) (c.any_missing.ensures (none_set c.any_missing.result t)))
