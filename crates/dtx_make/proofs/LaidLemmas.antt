-- Lemmas of damage that is laid over bytes: as many stand there as before, and pieces are laid each at its place.
use Rattle.std.proofs.Common.{◌≡◌, ℕ, ◌+◌, ◌<◌, List, [], ◌++◌, length, get_or, refl, ◌∙◌, arith, zero-add}
use Rattle.std.proofs.lemmas.List.{get_or_append_left, get_or-append-add, length-append}
use Rattle.std.proofs.lemmas.List.FromFn.{length-map-range_with_len, get_or-map-range_with_len}
use Rattle.dtx_lists.proofs.Parts.{append_from_parts}
use Rattle.dtx_plan.specs.declared.damage.Damage.{Damage}
use Rattle.dtx_make.specs.Hurt.{byte_at, damaged_bytes, hurt}

pub length-laid : (ds : List Damage) (place : ℕ) (xs : List ℕ) → length (damaged_bytes ds place xs) ≡ length xs
unfolding damaged_bytes
length-laid ds place xs = length-map-range_with_len (λ i. byte_at ds (place + i) (get_or xs i 0)) 0 (length xs)

pub get_or-laid : (ds : List Damage) (place : ℕ) (xs : List ℕ) (i : ℕ) → i < length xs
    → get_or (damaged_bytes ds place xs) i 0 ≡ byte_at ds (place + i) (get_or xs i 0)
unfolding damaged_bytes
get_or-laid ds place xs i l = grind (arith, get_or-map-range_with_len)

-- laid in two pieces
pub damaged_bytes-append : (ds : List Damage) (place : ℕ) (xs ys : List ℕ)
    → damaged_bytes ds place (xs ++ ys) ≡ damaged_bytes ds place xs ++ damaged_bytes ds (place + length xs) ys
damaged_bytes-append ds place xs ys =
    append_from_parts 0 (damaged_bytes ds place (xs ++ ys)) (damaged_bytes ds place xs) (damaged_bytes ds
    (place + length xs) ys) (length xs) (length ys)
    (length-laid ds place (xs ++ ys) ∙ length-append xs ys) (length-laid ds place xs)
    (length-laid ds (place + length xs) ys) first second
  where
    first : (k : ℕ) → k < length xs → get_or (damaged_bytes ds place (xs ++ ys)) k 0
        ≡ get_or (damaged_bytes ds place xs) k 0
    first k l = grind (arith, get_or-laid, length-append, get_or_append_left)

    second : (k : ℕ) → k < length ys → get_or (damaged_bytes ds place (xs ++ ys)) (length xs + k) 0
        ≡ get_or (damaged_bytes ds (place + length xs) ys) k 0
    second k l = grind (arith, get_or-laid, length-append, get_or-append-add)

-- a whole file in two pieces
pub hurt-append : (ds : List Damage) (xs ys : List ℕ) → hurt ds (xs ++ ys)
    ≡ hurt ds xs ++ damaged_bytes ds (length xs) ys
hurt-append ds xs ys = grind (arith, damaged_bytes-append, zero-add)

pub length-hurt : (ds : List Damage) (xs : List ℕ) → length (hurt ds xs) ≡ length xs
length-hurt ds xs = length-laid ds 0 xs

-- of no bytes none are damaged
pub hurt_none : (ds : List Damage) → hurt ds [] ≡ []
unfolding damaged_bytes
hurt_none ds = refl
