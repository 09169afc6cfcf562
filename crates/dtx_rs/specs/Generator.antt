-- The products by which a generator grows, one factor at a time, and the table of remainders.
use Rattle.std.specs.Prelude.{ℕ, List, [], ◌∷◌, ◌++◌, length, replicate}
use Rattle.std.specs.Int.RustNames.{bit_xor}
use Rattle.dtx_galois.specs.Field.{mul}
use Rattle.std.specs.Int.{to_le_bytes, w32}
use Rattle.dtx_laws.specs.Register.{register}

-- each coefficient plus r times the one before it, where c stands before the first
abbrev pub multiplied : ℕ → ℕ → List ℕ → List ℕ
multiplied r c [] = []
multiplied r c (x ∷ xs) = bit_xor x (mul r c) ∷ multiplied r x xs

-- the register of zeros after f and then k zeros, which is the remainder of f * x ^ (m + k) for a divisor of degree m
abbrev pub row : List ℕ → ℕ → ℕ → List ℕ
row divisor f k = register divisor (replicate (length divisor) 0) (f ∷ replicate k 0)

-- the bytes of words of 32 bits, the lowest of each first
abbrev pub word_bytes : List ℕ → List ℕ
word_bytes [] = []
word_bytes (w ∷ ws) = to_le_bytes w32 w ++ word_bytes ws
