-- Sums and multiples of words.
use Rattle.std.proofs.Common.{◌≡◌, ℕ, suc, List, [], ◌∷◌, length, refl, ap}
use Rattle.std.specs.Int.Bits.{xor_lt}
use Rattle.dtx_galois.specs.Field.{AreBytes, sums, scaled}
use Rattle.dtx_galois.proofs.FieldLemmas.{mul_small}

pub length_sums : (xs ys : List ℕ) → length (sums xs ys) ≡ length xs
length_sums [] ys = refl
length_sums (x ∷ xs) [] = refl
length_sums (x ∷ xs) (y ∷ ys) = ap suc (length_sums xs ys)

pub bytes_sums : (xs ys : List ℕ) → AreBytes xs → AreBytes ys → AreBytes (sums xs ys)
bytes_sums [] ys b c = tt
bytes_sums (x ∷ xs) [] b c = b
bytes_sums (x ∷ xs) (y ∷ ys) b c = (xor_lt 8 x y b.0 c.0, bytes_sums xs ys b.1 c.1)

pub length_scaled : (f : ℕ) (xs : List ℕ) → length (scaled f xs) ≡ length xs
length_scaled f [] = refl
length_scaled f (x ∷ xs) = ap suc (length_scaled f xs)

pub bytes_scaled : (f : ℕ) (xs : List ℕ) → AreBytes (scaled f xs)
bytes_scaled f [] = tt
bytes_scaled f (x ∷ xs) = (mul_small f x, bytes_scaled f xs)
