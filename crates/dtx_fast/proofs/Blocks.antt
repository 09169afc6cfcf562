-- The values of a walk block by block: those of a later block are those of the first, of moved coefficients.
use Rattle.std.proofs.Common.{◌≡◌, ℕ, zero, suc, ◌+◌, ◌-◌, ◌*◌, ◌<◌, ◌≤◌, ◌⊎◌, inl, inr, List, get_or, bit_xor, refl}
use Rattle.std.proofs.Common.{sym, ap, ap₂, ◌∙◌, arith}
use Rattle.dtx_galois.specs.Field.{mul, pow}
use Rattle.dtx_galois.proofs.FieldLemmas.{mul_assoc, mul_comm, mul_one}
use Rattle.dtx_galois.proofs.PowersLemmas.{pow_add, pow_mul, pow_one}
use Rattle.dtx_fast.specs.Recurrence.{walked}

-- at the product of two elements each coefficient is multiplied by a power of the first
walked_moved : (w z y : ℕ) (c d : ℕ → ℕ) → ((k : ℕ) → k < w → d k ≡ mul (c k) (pow z k))
    → walked w d y ≡ walked w c (mul z y)
unfolding walked
walked_moved zero z y c d h = refl
walked_moved (suc w) z y c d h = ap₂ bit_xor (walked_moved w z y c d (λ k l. h k (omega arith)))
    (grind (arith, mul_assoc, pow_mul))

-- before the first block
pub not_moved : (g k c : ℕ) → c < 256 → c ≡ mul c (pow (pow g (32 * 0)) k)
unfolding pow
not_moved g k c l = sym (ap (mul c) (pow_one k) ∙ mul_comm c 1 ∙ mul_one c l)

-- after one block more
pub moved_more : (g b k c d e : ℕ) → d ≡ mul c (pow (pow g (32 * b)) k) → e ≡ mul d (pow (pow g 32) k)
    → e ≡ mul c (pow (pow g (32 * (b + 1))) k)
moved_more g b k c d e h m =
    m ∙ ap (λ (v : ℕ). mul v (pow (pow g 32) k)) h ∙ mul_assoc c (pow (pow g (32 * b)) k) (pow (pow g 32) k)
    ∙ ap (mul c) (sym (pow_mul (pow g (32 * b)) (pow g 32) k) ∙ ap (λ (v : ℕ). pow v k) (sym (pow_add g (32 * b) 32)))
    ∙ ap (λ n. mul c (pow (pow g n) k)) (omega arith)

-- a value in a block
pub block_value : (w g b r : ℕ) (c d : ℕ → ℕ) → ((k : ℕ) → k < w → d k ≡ mul (c k) (pow (pow g (32 * b)) k))
    → walked w d (pow g r) ≡ walked w c (pow g (32 * b + r))
block_value w g b r c d h = grind (arith, walked_moved, pow_add)

-- what holds in all blocks so far holds in the next
pub blocks_more : (b : ℕ) (old new block : List ℕ) (f : ℕ → ℕ) → ((q : ℕ) → q < 32 * b → get_or old q 0 ≡ f q)
    → ((q : ℕ) → q < 32 * b → get_or new q 0 ≡ get_or old q 0)
    → ((r : ℕ) → r < 32 → get_or new (32 * b + r) 0 ≡ get_or block r 0)
    → ((r : ℕ) → r < 32 → get_or block r 0 ≡ f (32 * b + r)) → (q : ℕ) → q < 32 * (b + 1) → get_or new q 0 ≡ f q
blocks_more b old new block f done before put value q l = elim (places b q) [
  | inl u ↦ before q u ∙ done q u
  | inr u ↦
      let same : 32 * b + (q - 32 * b) ≡ q = omega arith in
      sym (ap (λ j. get_or new j 0) same) ∙ put (q - 32 * b) (omega arith) ∙ value (q - 32 * b) (omega arith)
      ∙ ap f same
]
  where
    places : (b q : ℕ) → (q < 32 * b) ⊎ (32 * b ≤ q)
    places b q = grind arith
