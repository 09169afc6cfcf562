-- Symbols as chunks of one segment.
use Rattle.std.proofs.Common.{◌≡◌, ℕ, ℤ, zero, suc, ◌+◌, ◌*◌, ◌<◌, ◌≤◌, List, [], get_or, length, take, drop, refl, ap}
use Rattle.std.proofs.Common.{◌∙◌, arith}
use Rattle.std.specs.Simd.{first_chunks}
use Rattle.std.proofs.lemmas.List.{drop-drop, get_or-take, length-take-le}
use Rattle.std.proofs.lemmas.List.FromFn.{fill_by_all}
use Rattle.dtx_acquire.specs.Acquired.{segments_from}

length-chunks : (n k : ℕ) (xs : List ℤ) → length (first_chunks n k xs) ≡ k
length-chunks n zero xs = refl
length-chunks n (suc k) xs = ap (λ (m : ℕ). suc m) (length-chunks n k (drop n xs))

chunk_at : (n k : ℕ) (xs : List ℤ) (i : ℕ) → i < k → get_or (first_chunks n k xs) i [] ≡ take n (drop (n * i) xs)
chunk_at n zero xs i within = absurd (omega arith)
chunk_at n (suc k) xs zero within = grind arith
chunk_at n (suc k) xs (suc i) within =
    let place : n + n * i ≡ n * suc i = omega arith in
    chunk_at n k (drop n xs) i (omega arith) ∙ ap (take n) (drop-drop (n * i) n xs ∙ ap (λ m. drop m xs) place)

-- The first chunks are the first segments.
pub chunks_are : (symbols : List ℤ) (count k : ℕ) → count ≤ k
    → take count (first_chunks 832 k symbols) ≡ segments_from symbols 0 count
unfolding segments_from
chunks_are symbols count k within =
    let all = length-chunks 832 k symbols in
    fill_by_all (λ i. take 832 (drop (0 + 832 * i) symbols)) (take count (first_chunks 832 k symbols)) count []
    (length-take-le count (first_chunks 832 k symbols) (omega (arith, all, within)))
    (λ i l. (grind (arith, get_or-take, chunk_at)))
