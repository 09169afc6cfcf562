-- What is made of the items of a list, each with its number, one behind the other.
use Rattle.std.proofs.Common.{◌≡◌, ℕ, zero, suc, ◌+◌, ◌*◌, ◌<◌, List, [], ◌∷◌, ◌++◌, length, take, drop, get_or}
use Rattle.std.proofs.Common.{sym, ap, ap₂, ◌∙◌, arith, add-zero}
use Rattle.std.specs.List.{enumerate_from, flat_map}
use Rattle.std.proofs.lemmas.List.{length-append, take_at, drop_at, drop-drop}
use Rattle.std.proofs.lemmas.Grind.{flat_map-append}

further : (n m : ℕ) → n + 1 + m ≡ n + suc m
further n m = omega arith

pub enumerate_append : {X : Type 0} (n : ℕ) (xs ys : List X)
    → enumerate_from n (xs ++ ys) ≡ enumerate_from n xs ++ enumerate_from (n + length xs) ys
enumerate_append n [] ys = ap (λ k. enumerate_from k ys) (sym (add-zero n))
enumerate_append n (x ∷ xs) ys = ap (λ zs. (n, x) ∷ zs) (rw (enumerate_append (n + 1) xs ys, further n (length xs)))

pub pieces_append : {X Y : Type 0} (f : ℕ × X → List Y) (n : ℕ) (xs ys : List X)
    → flat_map f (enumerate_from n (xs ++ ys))
    ≡ flat_map f (enumerate_from n xs) ++ flat_map f (enumerate_from (n + length xs) ys)
pieces_append f n xs ys = grind (arith, enumerate_append, flat_map-append)

-- ---- pieces of one length

next : (w n : ℕ) → w + w * n ≡ w * suc n
next w n = grind arith

pub length-pieces : {X Y : Type 0} (f : ℕ × X → List Y) (w n : ℕ) (xs : List X)
    → ((i : ℕ) (x : X) → length (f (i, x)) ≡ w) → length (flat_map f (enumerate_from n xs)) ≡ w * length xs
length-pieces f w n [] h = grind arith
length-pieces f w n (x ∷ xs) h = length-append (f (n, x)) (flat_map f (enumerate_from (n + 1) xs))
    ∙ ap₂ (λ (a b : ℕ). a + b) (h n x) (length-pieces f w (n + 1) xs h) ∙ next w (length xs)

-- piece k
pub piece_at : {X Y : Type 0} (f : ℕ × X → List Y) (w n : ℕ) (xs : List X) (k : ℕ) (d : X)
    → ((i : ℕ) (x : X) → length (f (i, x)) ≡ w) → k < length xs
    → take w (drop (w * k) (flat_map f (enumerate_from n xs))) ≡ f (n + k, get_or xs k d)
piece_at f w n [] k d h l = absurd (omega arith)
piece_at f w n (x ∷ xs) zero d h l = grind (arith, take_at, add-zero)
piece_at {X} {Y} f w n (x ∷ xs) (suc k) d h l =
    let rest : List Y = flat_map f (enumerate_from (n + 1) xs) in
    ap (take w) (ap (λ i. drop i (f (n, x) ++ rest)) (sym (next w k))
    ∙ sym (drop-drop (w * k) w (f (n, x) ++ rest)) ∙ ap (drop (w * k)) (drop_at (f (n, x)) rest w (h n x)))
    ∙ piece_at f w (n + 1) xs k d h (omega arith) ∙ ap (λ i. f (i, get_or xs k d)) (further n k)
