-- The register: its begin, its shift, its size.
use Rattle.std.proofs.Common.{◌≡◌, ℕ, suc, ◌+◌, ◌*◌, ◌^◌, ◌<◌, refl, sym, ap, ◌∙◌, pow-suc, mul_assoc, add-one, lit<}
use Rattle.std.proofs.lemmas.Nat.{shl_below}
use Rattle.dtx_galois.specs.Field.{remainder}
use Rattle.dtx_galois.proofs.DivisionLemmas.{remainder_small}
use Rattle.dtx_whiten.specs.Randomizer.{polynomial, preload, register}
use Rattle.dtx_whiten.proofs.Division.{remainder_double}

pub register_zero : register 0 ≡ 0xf180
unfolding register preload remainder
register_zero = refl

pub register_next : (t : ℕ) → register (t + 1) ≡ remainder 16 polynomial 1 (register t * 2)
unfolding register
register_next t =
    ap register_of (add-one t)
    ∙ ap (remainder 16 polynomial (suc t)) (ap (λ (x : ℕ). preload * x) (pow-suc 2 t)
    ∙ sym (mul_assoc preload (2 ^ t) 2))
    ∙ remainder_double 16 polynomial t (preload * 2 ^ t)
  where
    register_of : ℕ → ℕ
    register_of u = remainder 16 polynomial u (preload * 2 ^ u)

pub register_small : (t : ℕ) → register t < 2 ^ 16
unfolding register polynomial preload
register_small t = remainder_small 16 0x38cb t (0xf180 * 2 ^ t) (lit< tt) (shl_below 0xf180 16 t (lit< tt))
