-- Vectors that are read from a list and written to one.
use Rattle.std.proofs.Common.{◌≡◌, ℕ, ◌+◌, ◌-◌, ◌<◌, ◌≤◌, List, ◌++◌, map, take, drop, length, length-drop, get_or}
use Rattle.std.proofs.Common.{refl, ap, ◌∙◌, arith}
use Rattle.std.proofs.lemmas.List.{get_or_append_left, get_or-append_right, length-take-le, get_or-drop, take_all}
use Rattle.std.proofs.lemmas.Simd.{get_or-put_chunk_at, length-put_chunk, get_or-chunk, length-chunk}
use lib.Lanes.{put_chunk, chunk}
use Rattle.dtx_trellis.proofs.StoresLemmas.{lasts, last_at}
use Rattle.dtx_slice.proofs.LaneSteps.{picked_small}
use Rattle.dtx_slice.proofs.Slices.{AreSmall, small_take, small_drop}

-- sixteen lanes that are read from place a of n on
pub loaded : (n a p : ℕ) (xs : List ℕ) → length xs ≡ n → a + 16 ≤ n → p < 16
    → get_or (take 16 (drop 0 (take (n - a) (drop a xs)))) p 0 ≡ get_or xs (a + p) 0
loaded n a p xs h k l = ap (λ (ys : List ℕ). get_or (take 16 (drop 0 ys)) p 0)
    (take_all (n - a) (drop a xs) (omega (arith, length-drop a xs))) ∙ get_or-chunk 0 16 (drop a xs) p 0 l
    ∙ ap (λ i. get_or (drop a xs) i 0) (omega arith) ∙ get_or-drop a xs p 0

pub long_loaded : (n a : ℕ) (xs : List ℕ) → length xs ≡ n → a + 16 ≤ n
    → length (take 16 (drop 0 (take (n - a) (drop a xs)))) ≡ 16
long_loaded n a xs h k = grind (arith, take_all, length-drop, length-chunk)

-- the last twelve of the last sixteen
pub last_loaded : (p : ℕ) (xs : List ℕ) → length xs ≡ 3312 → p < 12
    → get_or (map (λ k. get_or (chunk 0 16 (take 16 (drop 3296 xs)) ++ chunk 0 16 (take 16 (drop 3296 xs))) k 0) lasts)
    p 0 ≡ get_or xs (3300 + p) 0
last_loaded p xs h l = at 3296 (take 16 (drop 3296 xs)) refl refl
  where
    at : (a : ℕ) (ys : List ℕ) → a ≡ 3296 → ys ≡ take (3312 - a) (drop a xs)
        → get_or (map (λ k. get_or (chunk 0 16 ys ++ chunk 0 16 ys) k 0) lasts) p 0 ≡ get_or xs (3300 + p) 0
    at a ys e f =
        let whole : take (3312 - a) (drop a xs) ≡ drop a xs = grind (arith, take_all, length-drop) in
        let long : length ys ≡ 16 = ap length (f ∙ whole) ∙ length-drop a xs ∙ omega arith in
        last_at (chunk 0 16 ys) p (length-chunk 0 16 ys (omega arith)) l
        ∙ ap (λ (zs : List ℕ). get_or (chunk 0 16 zs) (p + 4) 0) f
        ∙ loaded 3312 a (p + 4) xs h (omega arith) (omega arith) ∙ ap (λ i. get_or xs i 0) (omega arith)

pub last_small : (xs : List ℕ) → length xs ≡ 3312 → AreSmall xs
    → AreSmall (map (λ k. get_or (chunk 0 16 (take 16 (drop 3296 xs)) ++ chunk 0 16 (take 16 (drop 3296 xs))) k 0)
    lasts)
last_small xs h f =
    let room : 16 ≤ length (drop 3296 xs) = omega (arith, length-drop 3296 xs) in
    let long : length (take 16 (drop 3296 xs)) ≡ 16 = length-take-le 16 (drop 3296 xs) room in
    picked_small (chunk 0 16 (take 16 (drop 3296 xs))) lasts (small_take 16 (take 16 (drop 3296 xs)) (omega arith)
    (small_take 16 (drop 3296 xs) room (small_drop 3296 xs f)))

-- sixteen lanes that are written from place a of n on
pub stored : (n a p : ℕ) (xs lanes : List ℕ) → length xs ≡ n → length lanes ≡ 16 → a + 16 ≤ n → p < 16
    → get_or (take a xs ++ (put_chunk 0 (take (n - a) (drop a xs)) lanes ++ drop (n - a) (drop a xs))) (a + p) 0
    ≡ get_or lanes p 0
stored n a p xs lanes h k l m =
    let rest : List ℕ = take (n - a) (drop a xs) in
    let long : length (drop a xs) ≡ length xs - a = length-drop a xs in
    let whole : take (n - a) (drop a xs) ≡ drop a xs = take_all (n - a) (drop a xs) (omega arith) in
    let front : length (take a xs) ≡ a = length-take-le a xs (omega arith) in
    let room : length rest ≡ n - a = ap length whole ∙ long ∙ ap (λ n. n - a) h in
    get_or-append_right (take a xs) (put_chunk 0 rest lanes ++ drop (n - a) (drop a xs)) a (a + p) 0 front (omega arith)
    ∙ ap (λ i. get_or (put_chunk 0 rest lanes ++ drop (n - a) (drop a xs)) i 0) (omega arith)
    ∙ get_or_append_left (put_chunk 0 rest lanes) (drop (n - a) (drop a xs)) 0 p
    (omega (arith, length-put_chunk 0 rest lanes, room))
    ∙ ap (λ i. get_or (put_chunk 0 rest lanes) i 0) (omega arith)
    ∙ get_or-put_chunk_at 0 rest lanes p 0 (omega arith) (omega (arith, room))
