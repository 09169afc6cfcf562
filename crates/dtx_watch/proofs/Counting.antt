-- How many notes a group brings.
use Rattle.std.proofs.Common.{ℕ, ◌+◌, ◌≤◌, ◌==◌, ◌&&◌, Bool, true, false, not, cond, [], ◌∷◌, ◌++◌, length, arith}
use Rattle.std.proofs.Common.{length-append}
use Rattle.dtx_watch.specs.declared.notes.Note.{Note}
use Rattle.dtx_watch.specs.declared.watcher.Watcher.{Watcher}
use Rattle.dtx_watch.specs.Step.{Group, notes_in, lock_notes}
use Rattle.dtx_watch.proofs.GroupsLemmas.{few_notes}

few_by : (b : Bool) (note : Note) → length (cond b (note ∷ []) []) ≤ 1
few_by true note = omega arith
few_by false note = omega arith

few_lock : (w : Watcher) → length (lock_notes w) ≤ 1
few_lock w = few_by ((w.first == 0) && not w.flushed) _

pub few_in_all : (w : Watcher) (g : Group) (m : ℕ) → length (lock_notes w ++ notes_in g m) ≤ m + 1
few_in_all w g m = omega (arith, few_lock w, few_notes g m, length-append (lock_notes w) (notes_in g m))
