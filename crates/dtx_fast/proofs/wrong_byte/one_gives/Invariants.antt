use Rattle.std.proofs.Common.{◌≡◌, ℕ, ◌+◌, ◌*◌, ◌<◌, get_or}
use Rattle.dtx_galois.specs.Field.{pow}
use Rattle.dtx_fast.proofs.wrong_byte.one_gives.Given as goal

abbrev pub invariant-loop-i : goal.invariant-loop-i
invariant-loop-i l = (q : ℕ) → q < l.i → get_or l.fn.syndromes q 0 ≡ pow 2 (l.fn.wrong.error + l.fn.wrong.place * q)
