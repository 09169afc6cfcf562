-- Lists that are taken in chunks.
use Rattle.std.proofs.Common.{◌≡◌, ℕ, zero, suc, ◌+◌, ◌*◌, List, ◌++◌, take, drop, sym, ap, ◌∙◌, arith}
use Rattle.std.specs.List.{flat_map}
use Rattle.std.specs.Simd.{first_chunks}
use Rattle.std.proofs.Math.Seq.{take-add}

-- the first chunks of a list, one behind another, are its front
pub chunks_flat : {X : Type 0} (n k : ℕ) (xs : List X) → flat_map (λ c. c) (first_chunks n k xs) ≡ take (k * n) xs
chunks_flat n zero xs = let none : 0 ≡ 0 * n = omega arith in ap (λ m. take m xs) none
chunks_flat n (suc k) xs = ap (λ z. take n xs ++ z) (chunks_flat n k (drop n xs)) ∙ sym (take-add n (k * n) xs)
    ∙ ap (λ m. take m xs) (omega arith)
