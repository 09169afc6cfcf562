use Rattle.std.proofs.Common.{◌≡◌, ℕ, ◌+◌, ◌*◌, ◌<◌, bit_xor, get_or}
use Rattle.dtx_galois.specs.Field.{pow}
use Rattle.dtx_fast.proofs.wrong_byte.two_give.Given as goal

abbrev pub invariant-loop-i : goal.invariant-loop-i
invariant-loop-i l = (q : ℕ) → q < l.i → get_or l.fn.syndromes q 0
    ≡ bit_xor (pow 2 (l.fn.first.error + l.fn.first.place * q)) (pow 2 (l.fn.second.error + l.fn.second.place * q))
