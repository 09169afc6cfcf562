-- Lists of bytes.
use Rattle.std.proofs.Common.{ℕ, zero, suc, ◌<◌, List, [], ◌∷◌, ◌++◌, length, replicate, get_or, arith}
use Rattle.dtx_galois.specs.Field.{AreBytes}

pub bytes_append : (xs ys : List ℕ) → AreBytes xs → AreBytes ys → AreBytes (xs ++ ys)
bytes_append [] ys b c = c
bytes_append (x ∷ xs) ys b c = (b.0, bytes_append xs ys b.1 c)

pub bytes_drop : (xs ys : List ℕ) → AreBytes (xs ++ ys) → AreBytes ys
bytes_drop [] ys b = b
bytes_drop (x ∷ xs) ys b = bytes_drop xs ys b.1

pub bytes_push : (xs : List ℕ) (y : ℕ) → AreBytes xs → y < 256 → AreBytes (xs ++ y ∷ [])
bytes_push [] y b l = (l, tt)
bytes_push (x ∷ xs) y b l = (b.0, bytes_push xs y b.1 l)

pub bytes_zeros : (n : ℕ) → AreBytes (replicate n 0)
bytes_zeros zero = tt
bytes_zeros (suc n) = (omega arith, bytes_zeros n)

-- by place
pub AreBytes-from_places : (xs : List ℕ) → ((i : ℕ) → i < length xs → get_or xs i 0 < 256) → AreBytes xs
AreBytes-from_places [] h = tt
AreBytes-from_places (x ∷ xs) h = (h 0 (omega arith), AreBytes-from_places xs (λ i l. h (suc i) (omega arith)))
