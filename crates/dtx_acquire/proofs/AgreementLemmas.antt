-- Whether places agree, as it is searched.
use Rattle.std.proofs.Common.{◌≡◌, ℕ, ℤ, ◌+◌, ◌≤◌, ◌&&◌, leb, List, length, sym, ap, ◌∙◌, arith}
use Rattle.std.proofs.lemmas.Bool.{le-leb, lt-leb}
use Rattle.dtx_acquire.specs.Agreement.{agrees, unlike, NeedsSegment}

pub agrees_by : (symbols : List ℤ) (place n : ℕ) → place + 832 ≤ length symbols → n ≡ unlike symbols place 0 515
    → leb n 128 ≡ agrees symbols place
unfolding agrees
agrees_by symbols place n l e =
    ap (λ k. leb k 128) e ∙ sym (ap (λ b. b && leb (unlike symbols place 0 515) 128)
    (le-leb (place + 832) (length symbols) l))

-- no place agrees at which there is no segment
pub past_end : NeedsSegment agrees
unfolding agrees
past_end symbols place l = ap (λ b. b && leb (unlike symbols place 0 515) 128) (lt-leb (place + 832) (length symbols) l)
