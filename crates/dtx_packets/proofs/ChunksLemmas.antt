-- A list as chunks of one length.
use Rattle.std.proofs.Common.{◌≡◌, ℕ, zero, suc, ◌*◌, ◌<◌, List, [], get_or, take, drop, ap, ◌∙◌, arith}
use Rattle.std.proofs.lemmas.List.{drop-drop}
use Rattle.std.specs.Simd.{first_chunks}

pub get_or-first_chunks : {X : Type 0} (n k : ℕ) (xs : List X) (i : ℕ) → i < k
    → get_or (first_chunks n k xs) i [] ≡ take n (drop (n * i) xs)
get_or-first_chunks n zero xs i within = absurd (omega arith)
get_or-first_chunks n (suc k) xs zero within = grind arith
get_or-first_chunks n (suc k) xs (suc i) within = get_or-first_chunks n k (drop n xs) i (omega arith)
    ∙ ap (take n) (drop-drop (n * i) n xs ∙ ap (λ m. drop m xs) (omega arith))
