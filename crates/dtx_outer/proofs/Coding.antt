-- The outer coding of packets that follow each other.
use Rattle.std.proofs.Common.{◌≡◌, ℕ, suc, ◌+◌, ◌*◌, ◌/◌, ◌%◌, ◌<◌, ◌≤◌, List, [], ◌∷◌, ◌++◌, drop, length, get_or}
use Rattle.std.proofs.Common.{map, refl, sym, take, ap, ap₂, ◌∙◌, arith, mul-le-mul_left}
use Rattle.std.specs.List.{concat, enumerate_from}
use Rattle.std.proofs.Math.Nat.{mod-eq_of_lt}
use Rattle.std.proofs.lemmas.List.{append-nil, append_assoc, length-append, length-map, get_or-map}
use Rattle.std.proofs.lemmas.List.Concat.{concat_is}
use Rattle.std.proofs.lemmas.List.Folds.{flat_map-map}
use Rattle.std.proofs.lemmas.List.FromFn.{get_or-enumerate_from, length-enumerate_from}
use Rattle.std.proofs.lemmas.Nat.{le-div, mul-le}
use Rattle.dtx_laws.specs.Branches.{Branching, leaving_all, after_all, leaving_calls, after_calls}
use Rattle.dtx_laws.specs.Codeword.{IsCode}
use Rattle.dtx_laws.proofs.CompletedLemmas.{completed_each}
use Rattle.dtx_laws.specs.Whitening.{whitened}
use Rattle.dtx_laws.specs.Words.{completed}
use Rattle.dtx_outer.proofs.BackLemmas.{length-coded}
use Rattle.dtx_outer.specs.Outer.{coded_as, codewords}

-- ---- each packet

pub length-codewords : (n k : ℕ) (white : List ℕ) (s : ℕ) (heads : List (List ℕ))
    → length (codewords n k white s heads) ≡ length heads
unfolding codewords
length-codewords n k white s heads = grind (arith, length-map, length-enumerate_from)

pub get_or-codewords : (n k : ℕ) (white : List ℕ) (s : ℕ) (heads : List (List ℕ)) (i : ℕ) → i < length heads
    → get_or (codewords n k white s heads) i [] ≡ coded_as n k white (s + i) (get_or heads i [])
unfolding codewords
get_or-codewords n k white s heads i l =
    get_or-map (λ (p : ℕ × List ℕ). coded_as n k white p.0 p.1) (enumerate_from s heads) i (
      0,
      [],
    ) [] (omega (arith, l, length-enumerate_from s heads))
    ∙ ap (λ (p : ℕ × List ℕ). coded_as n k white p.0 p.1) (get_or-enumerate_from s heads i (0, []) l)

pub length-joined : (n k : ℕ) (white : List ℕ) (s : ℕ) (heads : List (List ℕ)) → k ≤ n
    → ((i : ℕ) → i < length heads → length (get_or heads i []) ≡ k)
    → length (concat (codewords n k white s heads)) ≡ n * length heads
unfolding codewords
length-joined n k white s [] m h = let e : 0 ≡ n * 0 = grind arith in e
length-joined n k white s (x ∷ xs) m h =
    let first : length x ≡ k = h 0 (omega arith) in
    length-append (coded_as n k white s x) (concat (codewords n k white (s + 1) xs))
    ∙ ap₂ ◌+◌ (length-coded n k white _ x ∙ omega arith)
    (length-joined n k white (s + 1) xs m (λ i l. h (suc i) (omega arith))) ∙ more (length xs)
  where
    more : (l : ℕ) → n + n * l ≡ n * suc l
    more l = grind arith

-- ---- one packet more

pub codewords_more : (n k : ℕ) (white : List ℕ) (s : ℕ) (heads : List (List ℕ)) (head : List ℕ)
    → codewords n k white s (heads ++ head ∷ []) ≡ codewords n k white s heads
    ++ coded_as n k white (s + length heads) head ∷ []
unfolding codewords
codewords_more n k white s [] head = ap (λ p. coded_as n k white p head ∷ []) (let e : s ≡ s + 0 = omega arith in e)
codewords_more n k white s (x ∷ xs) head = ap (λ ys. coded_as n k white s x ∷ ys)
    (codewords_more n k white (s + 1) xs head
    ∙ ap (λ p. codewords n k white (s + 1) xs ++ coded_as n k white p head ∷ []) (grind arith))

pub leaving_more : (b : ℕ) (v : Branching) (calls : List (List ℕ)) (call : List ℕ)
    → leaving_calls b v (calls ++ call ∷ []) ≡ leaving_calls b v calls ++ leaving_all b (after_calls b v calls) call
unfolding leaving_calls after_calls
leaving_more b v [] call = append-nil (leaving_all b v call)
leaving_more b v (x ∷ xs) call = ap (λ ys. leaving_all b v x ++ ys) (leaving_more b (after_all b v x) xs call)
    ∙ sym (grind (arith, append_assoc))

pub after_more : (b : ℕ) (v : Branching) (calls : List (List ℕ)) (call : List ℕ)
    → after_calls b v (calls ++ call ∷ []) ≡ after_all b (after_calls b v calls) call
unfolding after_calls
after_more b v [] call = refl
after_more b v (x ∷ xs) call = after_more b (after_all b v x) xs call

-- a packet of the whitener's period
pub packet_within : (k place period : ℕ) → 0 < k → place < period / k → k * place + k ≤ period
packet_within k place period some l = grind (arith, mul-le-mul_left)

-- ---- four packets at once

-- word p of four, and its front
pub front_within : (n k p long : ℕ) → k ≤ n → p < 4 → long ≡ n * 4 → n * p + k ≤ long
front_within n k p long few l e = grind (arith, mul-le-mul_left)

-- the bytes by which packet p of them is whitened are those of one packet of the period
pub white_within : (k place period p : ℕ) → k * (place + 4) ≤ period → p < 4 → k * (place + p) + k ≤ period
white_within k place period p h l = grind (arith, mul-le-mul_left)

pub place_small : (k place period p : ℕ) → 0 < k → k * (place + 4) ≤ period → p < 4 → place + p ≤ period
place_small k place period p some h l = grind (arith, mul-le)

place_within : (k place period p : ℕ) → 0 < k → k * (place + 4) ≤ period → p < 4
    → place + p ≡ (place + p) % (period / k)
place_within k place period p some h l = grind (arith, le-div, mod-eq_of_lt)

-- words that begin with the data of four packets, whitened, become their codewords
pub begun_completed : {A : Type 0} (n k : ℕ) (white : List ℕ) (place period : ℕ) (f : A → List ℕ) (xs : List A)
    (words : List ℕ) → IsCode n k → length white ≡ period → length xs ≡ 4 → k * (place + 4) ≤ period
    → ((p : ℕ) → p < 4 → take k (drop (n * p) words) ≡ whitened white (k * (place + p)) (get_or (map f xs) p []))
    → completed n k 4 words ≡ concat (codewords n k white place (map f xs))
unfolding codewords
begun_completed n k white place period f xs words code long four within begun =
    let heads : List (List ℕ) = map f xs in
    let count : length heads ≡ 4 = length-map xs f ∙ four in
    ap (λ i. completed n k i words) (sym count)
    ∙ completed_each n k (λ p head. whitened white (k * (p % (length white / k))) head) place heads words
    (λ p l. grind (arith, place_within))
    ∙ sym (concat_is (codewords n k white place heads) ∙ flat_map-map (λ x. x) (λ p. coded_as n k white p.0 p.1)
    (enumerate_from place heads))
