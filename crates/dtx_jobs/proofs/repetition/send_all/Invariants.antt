use Rattle.std.proofs.Common.{◌≡◌, ◌≤◌, ◌+◌, ◌*◌, [], ℕ, ℤ, List, length, take}
use Rattle.dtx_repeat.specs.GoingOn.{longer}
use Rattle.dtx_repeat.specs.Lives.{packets_in}
use Rattle.dtx_jobs.specs.Repetition.{IsSending, IsSentOn}
use Rattle.dtx_jobs.proofs.repetition.send_all.Given as goal

abbrev pub invariant-loop-i : goal.invariant-loop-i
invariant-loop-i l = record {
  sent : (a d : ℕ) (s : List (List ℤ)) (ls : List (List (List ℕ)))
      → IsSending a d l.fn.repeater l.fn.sending.tally s ls → (ls ≡ [] → l.packets ≡ [])
      → IsSentOn a d l.repeater l.fn.sending l.sending s ls (longer ls (packets_in (take l.i l.packets))) l.i;
  short : length l.sending.lines ≤ length l.fn.sending.lines + 64 * l.i;
  count : l.sending.tally.packets ≡ l.fn.sending.tally.packets + l.i;
}
