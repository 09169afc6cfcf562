-- Vectors that are read from a list and written to one.
use Rattle.std.proofs.Common.{◌≡◌, ℕ, ◌+◌, ◌-◌, ◌<◌, ◌≤◌, ◌==◌, true, List, [], ◌∷◌, ◌++◌, map, take, drop, length}
use Rattle.std.proofs.Common.{length-drop, get_or, refl, ap, ◌∙◌, arith}
use Rattle.std.proofs.lemmas.Bool.{eqb-true}
use Rattle.std.proofs.lemmas.List.{get_or-map, get_or_append_left, get_or-append_right, length-take-le, get_or-drop}
use Rattle.std.proofs.lemmas.List.{take_all}
use Rattle.std.proofs.lemmas.Simd.{get_or-put_chunk_at, length-put_chunk, get_or-chunk, length-chunk}
use lib.Lanes.{put_chunk, chunk}
use Rattle.dtx_lists.proofs.Below.{holds_below, at_below}

-- the first twelve of sixteen lanes that are written from place a on
pub stored : {X : Type 0} (z : X) (a p : ℕ) (symbols lanes : List X) → length symbols ≡ 3328 → length lanes ≡ 16
    → a ≤ 3312 → p < 12 → get_or (take a symbols ++ (put_chunk 0 (take (3328 - a) (drop a symbols)) lanes
    ++ drop (3328 - a) (drop a symbols))) (a + p) z ≡ get_or lanes p z
stored {X} z a p symbols lanes h k l m =
    let rest : List X = take (3328 - a) (drop a symbols) in
    let behind : List X = drop (3328 - a) (drop a symbols) in
    let long : length (drop a symbols) ≡ length symbols - a = length-drop a symbols in
    let whole : take (3328 - a) (drop a symbols) ≡ drop a symbols =
    take_all (3328 - a) (drop a symbols) (omega arith) in
    let front : length (take a symbols) ≡ a = length-take-le a symbols (omega arith) in
    let room : length rest ≡ 3328 - a = ap length whole ∙ long ∙ ap (λ n. n - a) h in
    get_or-append_right (take a symbols) (put_chunk 0 rest lanes ++ behind) a (a + p) z front (omega arith)
    ∙ grind (arith, get_or_append_left, length-put_chunk, get_or-put_chunk_at)

-- sixteen lanes that are read from place 12 * h on
pub loaded : (a p : ℕ) (bytes : List ℕ) → length bytes ≡ 828 → a < 813 → p < 16
    → get_or (take 16 (drop 0 (take (828 - a) (drop a bytes)))) p 0 ≡ get_or bytes (a + p) 0
loaded a p bytes h k l = ap (λ (xs : List ℕ). get_or (take 16 (drop 0 xs)) p 0)
    (take_all (828 - a) (drop a bytes) (omega (arith, length-drop a bytes))) ∙ get_or-chunk 0 16 (drop a bytes) p 0 l
    ∙ get_or-chunk_all (drop a bytes) p ∙ get_or-drop a bytes p 0
  where
    get_or-chunk_all : (xs : List ℕ) (p : ℕ) → get_or xs (0 + p) 0 ≡ get_or xs p 0
    get_or-chunk_all xs p = let e : 0 + p ≡ p = omega arith in ap (λ i. get_or xs i 0) e

-- the last twelve of sixteen lanes, in front
abbrev pub lasts : List ℕ
lasts = 4 ∷ 5 ∷ 6 ∷ 7 ∷ 8 ∷ 9 ∷ 10 ∷ 11 ∷ 12 ∷ 13 ∷ 14 ∷ 15 ∷ 0 ∷ 1 ∷ 2 ∷ 3 ∷ []

last_test : holds_below (λ p. get_or lasts p 0 == p + 4) 12 ≡ true
last_test = refl

pub last_at : (v : List ℕ) (p : ℕ) → length v ≡ 16 → p < 12
    → get_or (map (λ k. get_or (v ++ v) k 0) lasts) p 0 ≡ get_or v (p + 4) 0
last_at v p h l = get_or-map (λ k. get_or (v ++ v) k 0) lasts p 0 0 (omega arith)
    ∙ grind (arith, eqb-true, at_below, last_test, get_or_append_left)

pub last_loaded : (p : ℕ) (bytes : List ℕ) → length bytes ≡ 828 → p < 12
    → get_or (map (λ k. get_or (chunk 0 16 (take 16 (drop 812 bytes)) ++ chunk 0 16 (take 16 (drop 812 bytes))) k 0)
    lasts) p 0 ≡ get_or bytes (816 + p) 0
last_loaded p bytes h l = at 812 (take 16 (drop 812 bytes)) refl refl
  where
    at : (a : ℕ) (xs : List ℕ) → a ≡ 812 → xs ≡ take (828 - a) (drop a bytes)
        → get_or (map (λ k. get_or (chunk 0 16 xs ++ chunk 0 16 xs) k 0) lasts) p 0 ≡ get_or bytes (816 + p) 0
    at a xs e f =
        let whole : take (828 - a) (drop a bytes) ≡ drop a bytes =
        take_all (828 - a) (drop a bytes) (omega (arith, length-drop a bytes)) in
        let long : length xs ≡ 16 = ap length (f ∙ whole) ∙ length-drop a bytes ∙ omega arith in
        let place : a + (p + 4) ≡ 816 + p = omega arith in
        last_at (chunk 0 16 xs) p (length-chunk 0 16 xs (omega arith)) l ∙ grind (arith, loaded)
