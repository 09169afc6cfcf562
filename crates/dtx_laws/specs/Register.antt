-- The generator of a code, and the register that divides by it. Data, followed by what the register holds after them,
-- are a codeword (`EncodingLaws`). Proofs of an encoder's loops use the register; the laws of codewords don't name it.
use Rattle.std.specs.Prelude.{ℕ, List, [], ◌∷◌, ◌++◌}
use Rattle.std.proofs.Common.{zero, suc}
use Rattle.std.specs.Int.RustNames.{bit_xor}
use Rattle.dtx_galois.specs.Field.{pow, sums, scaled}

-- the product of all x - α^i for i below m, without its highest term x^m
abbrev pub generator : ℕ → List ℕ
generator zero = []
generator (suc m) = sums (generator m ++ 0 ∷ []) (pow 2 m ∷ scaled (pow 2 m) (generator m))

-- The register after the byte b. It moves by one place. Then the generator, times the sum of b and the byte that left,
-- is added.
abbrev pub fed : List ℕ → List ℕ → ℕ → List ℕ
fed g [] b = []
fed g (r ∷ rs) b = sums (rs ++ 0 ∷ []) (scaled (bit_xor b r) g)

-- the register after all bytes
abbrev pub register : List ℕ → List ℕ → List ℕ → List ℕ
register g rs [] = rs
register g rs (b ∷ bs) = register g (fed g rs b) bs
