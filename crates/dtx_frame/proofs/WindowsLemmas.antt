-- A broken place needs a differing symbol among three, so a third of the broken places differ.
use Rattle.std.proofs.Common.{◌≡◌, ℕ, zero, suc, ◌+◌, ◌-◌, ◌*◌, ◌%◌, ◌<◌, ◌≤◌, ap, arith}
use Rattle.dtx_frame.proofs.CountsLemmas.{total, part}

windows : (g d : ℕ → ℕ) → ((p : ℕ) → 24 ≤ p → p < 511 → g p ≤ d p + d (p - 12) + d (p - 24)) → (a n : ℕ) → 24 ≤ a
    → a + n ≤ 511 → total g a n ≤ total d a n + total d (a - 12) n + total d (a - 24) n
windows g d h a zero l k = omega arith
windows g d h a (suc n) l k =
    let e : suc a - 12 ≡ suc (a - 12) = omega arith in
    let f : suc a - 24 ≡ suc (a - 24) = omega arith in
    omega (
      arith,
      h a l (omega arith),
      windows g d h (suc a) n (omega arith) (omega arith),
      ap (λ x. total d x n) e,
      ap (λ x. total d x n) f,
    )

-- at least a third of what is broken at the places 24 to 510
pub a_third : (g d : ℕ → ℕ) → ((p : ℕ) → 24 ≤ p → p < 511 → g p ≤ d p + d (p - 12) + d (p - 24))
    → total g 24 487 ≤ 3 * total d 0 511
a_third g d h = bound (total g 24 487) (total d 24 487) (total d 12 487) (total d 0 487) (total d 0 511)
    (windows g d h 24 487 (omega arith) (omega arith)) (part d 24 487 511 (omega arith))
    (part d 12 487 511 (omega arith)) (part d 0 487 511 (omega arith))
  where
    bound : (x a b c w : ℕ) → x ≤ a + b + c → a ≤ w → b ≤ w → c ≤ w → x ≤ 3 * w
    bound x a b c w h i j k = omega arith

-- where the symbols at p, p - 12 and p - 24 are those of the sync, the rule of the coders is the sync's
pub window : (z1 z0 b : ℕ → ℕ) (p : ℕ) → z0 p ≡ (z1 (p - 12) + z0 (p - 24)) % 2 → b p < 2 → b (p - 12) < 2
    → b (p - 24) < 2 → z0 p ≡ (b p + 1) % 2 → z1 (p - 12) ≡ b (p - 12) → z0 (p - 24) ≡ (b (p - 24) + 1) % 2
    → b p ≡ (b (p - 12) + b (p - 24)) % 2
window z1 z0 b p r l m n e f g = omega arith
