-- Three bits for each state.
use Rattle.std.proofs.Common.{◌≡◌, ℕ, ◌+◌, ◌*◌, ◌^◌, ◌<◌, ◌≤◌, List, length, take, get_or, refl, arith}
use Rattle.std.proofs.Math.Nat.{pow-le-pow_right}
use Rattle.std.proofs.lemmas.Nat.{pow-add}
use Rattle.std.proofs.lemmas.List.{take_more}
use Rattle.std.proofs.lemmas.List.Sums.{fold_push}
use Rattle.std.specs.List.{fold}

-- the number grows by three bits
pub packed_more : (states : List ℕ) (i bits : ℕ) → i < length states
    → bits ≡ fold (λ before state. 8 * before + state) 0 (take i states)
    → 8 * bits + get_or states i 0 ≡ fold (λ before state. 8 * before + state) 0 (take (i + 1) states)
packed_more states i bits h e = rw (
  take_more states i 0 h,
  fold_push (λ before state. 8 * before + state) 0 (take i states) (get_or states i 0),
  e,
) refl

pub below_more_bits : (i bits state : ℕ) → bits < 2 ^ (3 * i) → state < 8 → 8 * bits + state < 2 ^ (3 * (i + 1))
below_more_bits i bits state h k =
    let e : 3 * (i + 1) ≡ 3 * i + 3 = omega arith in
    rw (e, pow-add 2 (3 * i) 3) (omega arith)

pub below_36 : (i bits : ℕ) → i ≤ 12 → bits < 2 ^ (3 * i) → bits < 2 ^ 36
below_36 i bits h k = let top : 2 ^ (3 * i) ≤ 2 ^ 36 =
    pow-le-pow_right {n = 2} (omega arith) {i = 3 * i} {j = 36} (omega arith) in omega arith
