use Rattle.std.proofs.Common.{◌≡◌, ℕ, ◌<◌, false, Some}
use Rattle.std.specs.Prelude.{slice_get}
use Rattle.dtx_plan.specs.declared.event.Event.{Event}
use Rattle.dtx_schedule.specs.Inside.{reads_past}
use Rattle.dtx_schedule.proofs.inside.first_past_feed.Given as goal

abbrev pub invariant-loop-i : goal.invariant-loop-i
invariant-loop-i l = (k : ℕ) (e : Event) → k < l.i → slice_get l.events k ≡ Some e → reads_past l.packets e ≡ false
