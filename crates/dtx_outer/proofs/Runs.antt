-- A run, block by block: the word that a block completes, and what is kept.
use Rattle.std.proofs.Common.{◌≡◌, ℕ, ◌+◌, ◌-◌, ◌*◌, ◌/◌, ◌%◌, ◌<◌, ◌≤◌, ◌⊎◌, ◌==◌, inl, inr, cond, Bool, true, false}
use Rattle.std.proofs.Common.{List, [], ◌∷◌, ◌++◌, length, get_or, take, drop, refl, sym, ap, ◌∙◌, arith, zero, suc}
use Rattle.std.proofs.Common.{subst, mul-le-mul_left, div-add-mod'}
use Rattle.std.proofs.lemmas.Bool.{cases_lt, eqb-true, eqb-false}
use Rattle.std.proofs.lemmas.Nat.{div-mul-add, mod-mul-add, mod_below}
use Rattle.std.proofs.lemmas.List.{get_or_append_left, get_or-append_right, get_or-take, get_or-drop, drop_at}
use Rattle.std.proofs.lemmas.List.{length-drop, length-append, length-take-le, take_all, append_assoc, append-nil}
use Rattle.std.proofs.lemmas.List.{get_or-set_same, get_or-set_other}
use Rattle.std.proofs.Math.ListN.{set}
use Rattle.std.proofs.Math.Seq.{take-add}
use Rattle.dtx_laws.specs.Branches.{IsInterleaver, Branching, HasWidths, gathering, aligned, leaving_all, after_all}
use Rattle.dtx_laws.specs.Branches.{after_byte, leaving}
use Rattle.dtx_laws.proofs.InterleavingLemmas.{HasWidths-aligned}
use Rattle.dtx_laws.proofs.PlacesLemmas.{length_leaving, leaving_append, after_append}
use Rattle.dtx_outer.specs.Inner.{waiting, completing, word_at, Kept, StandsFor, Gives, IsTaken, IsNext, block_behind}
use Rattle.dtx_outer.specs.Outer.{IsPeriod}
use Rattle.dtx_outer.specs.declared.inner.Taken.{Taken}
use Rattle.dtx_outer.specs.declared.inner.Taken.TheVariants.{None}
use Rattle.dtx_outer.proofs.WordsLemmas.{waiting_some, completing_is, completing_within, word_by, gathers_word}

-- ---- the word that a block completes

-- the end of one block and the begin of the next
window_at : (us vs : List ℕ) (a skip n j : ℕ) → length us ≡ a + n → length vs ≡ n → skip ≤ n → j < n
    → get_or (drop skip (drop a us) ++ take skip vs) j 0 ≡ get_or (us ++ vs) (a + skip + j) 0
window_at us vs a skip n j e f s l =
    grind (arith, cases_lt, length-drop, get_or_append_left, get_or-drop, get_or-append_right, get_or-take)

parts : (n a u v : ℕ) → a ≡ u + v → n * a ≡ n * u + n * v
parts n a u v e = grind arith

-- the block bs behind the bytes y, which came in q + k blocks
pub word_is : (n b m k : ℕ) (g : Branching) (y bs : List ℕ) → 0 < n → IsInterleaver b m → HasWidths b (gathering b m) g
    → g.next ≡ 0 → length y ≡ n * (waiting n b m + k) → length bs ≡ n
    → drop (completing n b m) (drop (n * (waiting n b m + k - 1)) (leaving_all b g y))
    ++ take (completing n b m) (leaving_all b (after_all b g y) bs) ≡ word_at n b m (y ++ bs) k
word_is n b m k g y bs p i s z ly lb =
    let within : completing n b m ≤ n = completing_within n b m p i in
    let last : n * (waiting n b m + k) ≡ n * (waiting n b m + k - 1) + n * 1 =
    parts n (waiting n b m + k) (waiting n b m + k - 1) 1 (omega (arith, some)) in
    let one : n * 1 ≡ n = grind arith in
    let first : length (leaving_all b g y) ≡ n * (waiting n b m + k - 1) + n =
    length_leaving b g y ∙ omega (arith, ly, last, one) in
    let second : length (leaving_all b (after_all b g y) bs) ≡ n = length_leaving b (after_all b g y) bs ∙ lb in
    let long : length (drop (completing n b m) (drop (n * (waiting n b m + k - 1)) (leaving_all b g y)) ++ take
    (completing n b m) (leaving_all b (after_all b g y) bs)) ≡ n =
    length-append (drop (completing n b m) (drop (n * (waiting n b m + k - 1)) (leaving_all b g y)))
    (take (completing n b m) (leaving_all b (after_all b g y) bs)) ∙ omega (
      arith,
      within,
      length-drop (completing n b m) (drop (n * (waiting n b m + k - 1)) (leaving_all b g y)),
      length-drop (n * (waiting n b m + k - 1)) (leaving_all b g y),
      first,
      length-take-le (completing n b m) (leaving_all b (after_all b g y) bs) (omega (arith, second, within)),
    ) in
    word_by n b m (y ++ bs) k (drop (completing n b m) (drop (n * (waiting n b m + k - 1)) (leaving_all b g y))
    ++ take (completing n b m) (leaving_all b (after_all b g y) bs)) long
    (λ j l. window_at (leaving_all b g y) (leaving_all b (after_all b g y) bs) (n * (waiting n b m + k - 1))
    (completing n b m) n j first second within l
    ∙ ap (λ zs. get_or zs (n * (waiting n b m + k - 1) + completing n b m + j) 0) (sym (leaving_append b g y bs))
    ∙ ap (λ i. get_or (leaving_all b g (y ++ bs)) i 0) (at j)
    ∙ gathers_word b m g (y ++ bs) (n * k + j) (omega (arith, s.next)) s z
    (omega (arith, at j, length-append y bs, ly, lb, last, one, within)))
  where
    some : 1 ≤ waiting n b m
    some = waiting_some n b m p i

    split : n * (waiting n b m + k - 1) ≡ n * (waiting n b m - 1) + n * k
    split = parts n (waiting n b m + k - 1) (waiting n b m - 1) k (omega (arith, some))

    at : (j : ℕ) → n * (waiting n b m + k - 1) + completing n b m + j ≡ n * k + j + b * m * (b - 1)
    at j = omega (arith, split, completing_is n b m p i)

-- ---- how many blocks have come

blocks_are : (n a c : ℕ) → 0 < n → n * a ≡ n * c → a ≡ c
blocks_are n a c p e = grind (arith, div-mul-add)

less_blocks : (n a c : ℕ) → a < c → 0 < n → n * a < n * c
less_blocks n a c l p = grind (arith, mul-le-mul_left)

pub none_or_packet : (n k b m : ℕ) (inner : Kept) (y : List ℕ) → 0 < n → StandsFor n k b m inner y
    → (length y < n * waiting n b m) ⊎ ((j : ℕ) × (length y ≡ n * (waiting n b m + j)))
none_or_packet n k b m inner y p s = elim (cases_lt s.blocks (waiting n b m)) [
  | inl l ↦ inl (omega (arith, s.given, less_blocks n s.blocks (waiting n b m) l p))
  | inr l ↦ inr (s.blocks - waiting n b m, s.given ∙ ap (λ i. n * i) (omega arith))
]

-- while blocks are waited for
pub still_waits : (n k b m j : ℕ) (d : Kept) (y : List ℕ) → 0 < n → StandsFor n k b m d y → 0 < d.waits
    → length y ≡ n * (waiting n b m + j) → ⊥
still_waits n k b m j d y p s h e = grind (arith, blocks_are)

-- and when none is
pub waits_no_more : (n k b m : ℕ) (d : Kept) (y : List ℕ) → StandsFor n k b m d y → d.waits ≡ 0
    → length y < n * waiting n b m → ⊥
waits_no_more n k b m d y s h l = grind (arith, mul-le-mul_left)

-- ---- the packet

pub word_given : (n k b m j : ℕ) (d : Kept) (y bs : List ℕ) → 0 < n → IsInterleaver b m → length bs ≡ n
    → StandsFor n k b m d y → length y ≡ n * (waiting n b m + j)
    → drop (completing n b m) d.before ++ take (completing n b m) (leaving_all b d.branches bs)
    ≡ word_at n b m (y ++ bs) j
word_given n k b m j d y bs p i lb s e = grind (arith, waiting_some, word_is, blocks_are)

pub place_given : (n k b m j : ℕ) (d : Kept) (y : List ℕ) → 0 < n → StandsFor n k b m d y
    → length y ≡ n * (waiting n b m + j) → d.place ≡ j % (length d.white / k)
place_given n k b m j d y p s e = grind (arith, blocks_are)

-- ---- what is kept, one block further

more_blocks : (n c : ℕ) (y bs : List ℕ) → length y ≡ n * c → length bs ≡ n → length (y ++ bs) ≡ n * (c + 1)
more_blocks n c y bs e f = grind (arith, length-append)

last_gathered : (n b c : ℕ) (g : Branching) (y bs : List ℕ) → length y ≡ n * c
    → leaving_all b (after_all b g y) bs ≡ drop (n * (c + 1 - 1)) (leaving_all b g (y ++ bs))
last_gathered n b c g y bs e = grind (arith, leaving_append, drop_at, length_leaving)

place_next : (x count p : ℕ) → p ≡ x % count → (t : Bool) → (t ≡ true → p + 1 ≡ count) → (t ≡ false → p + 1 ≡ count → ⊥)
    → p < count → cond t 0 (p + 1) ≡ (x + 1) % count
place_next x count p e true f g l =
    let k : p + 1 ≡ count = f refl in
    let b : (x / count + 1) * count ≡ x / count * count + count = grind arith in
    let a : x + 1 ≡ (x / count + 1) * count + 0 = omega (arith, k, e, b) in
    sym (ap (λ i. i % count) a ∙ mod-mul-add (x / count + 1) count 0 (omega arith))
place_next x count p e false f g l =
    let h : x ≡ x / count * count + x % count = sym (div-add-mod' x count) in
    let k : p + 1 ≡ count → ⊥ = g refl in
    let a : x + 1 ≡ x / count * count + (p + 1) = omega (arith, h, e) in
    sym (ap (λ i. i % count) a ∙ mod-mul-add (x / count) count (p + 1) (omega arith))

-- the place at the start
pub place_zero : (w count : ℕ) → 0 ≡ (0 - w) % count
place_zero w count = let h : 0 - w ≡ 0 = omega arith in omega arith

-- what is kept when a run starts
pub start_stands : (n k b m : ℕ) (d e : Kept) → HasWidths b (gathering b m) d.branches → e.branches ≡ aligned d.branches
    → e.waits ≡ waiting n b m → e.place ≡ 0 → StandsFor n k b m e []
unfolding after_all
start_stands n k b m d e h ev ew ep = grind (arith, HasWidths-aligned, place_zero)

-- ---- what a gathered block leaves

-- one that gives no packet
pub next_waiting : (k : ℕ) (d old : Kept) → d ≡ old → 0 < d.waits → IsNext k old (record d { waits = d.waits - 1 })
next_waiting k d old e h = grind arith

-- and one that gives a packet
pub next_given : (k count place : ℕ) (d old : Kept) → d ≡ old → d.waits ≤ 0 → count ≡ length d.white / k
    → place ≡ cond (d.place + 1 == count) 0 (d.place + 1) → IsNext k old (record d { place = place })
next_given k count place d old e h c p = grind arith

-- ---- a block, whether it gives a packet or not

-- what is given
pub taken_next : (n k b m : ℕ) (d : Kept) (y bs gathered old new : List ℕ) (taken : Taken) → 0 < n → IsInterleaver b m
    → length bs ≡ n → StandsFor n k b m d y
    → gathered ≡ drop (completing n b m) d.before ++ take (completing n b m) (leaving_all b d.branches bs)
    → (0 < d.waits → (taken ≡ None) × (new ≡ old)) → (d.waits ≡ 0 → Gives n k d.white (k * d.place) gathered new taken)
    → IsTaken n k b m d.white y bs old new taken
taken_next n k b m d y bs gathered old new taken p i lb s w f g = record {
  none = λ l. none l (cases_lt 0 d.waits);
  packet = λ j e. packet j e (cases_lt 0 d.waits);
}
  where
    none : length y < n * waiting n b m → (0 < d.waits) ⊎ (d.waits ≤ 0) → (taken ≡ None) × (new ≡ old)
    none l (inl h) = f h
    none l (inr h) = absurd (waits_no_more n k b m d y s (omega (arith, h)) l)

    packet : (j : ℕ) → length y ≡ n * (waiting n b m + j) → (0 < d.waits) ⊎ (d.waits ≤ 0)
        → Gives n k d.white (k * (j % (length d.white / k))) (word_at n b m (y ++ bs) j) new taken
    packet j e (inl h) = absurd (still_waits n k b m j d y p s h e)
    packet j e (inr h) = rw (← place_given n k b m j d y p s e)
        (rw (← (w ∙ word_given n k b m j d y bs p i lb s e)) (g (omega (arith, h))))

-- a period has packets
pub whole_packets : (n k b period : ℕ) → 0 < k → IsPeriod n k b period → 0 < period / k
whole_packets n k b period p h = grind (arith, cases_lt, div-add-mod')

-- what is kept
pub stands_next : (n k b m period : ℕ) (d e : Kept) (y bs : List ℕ) → 0 < k → IsPeriod n k b period
    → length d.white ≡ period → length bs ≡ n → StandsFor n k b m d y
    → IsNext k (record d { branches = after_all b d.branches bs; before = leaving_all b d.branches bs }) e
    → StandsFor n k b m e (y ++ bs)
stands_next n k b m period d e y bs p h w lb s x = record {
  start = s.start;
  widths = s.widths;
  aligned = s.aligned;
  blocks = s.blocks + 1;
  given = more_blocks n s.blocks y bs s.given lb;
  branches = x.branches ∙ ap (λ v. after_all b v bs) s.branches ∙ sym (after_append b s.start y bs);
  before = λ _. x.before ∙ ap (λ v. leaving_all b v bs) s.branches ∙ last_gathered n b s.blocks s.start y bs s.given;
  waits = omega (arith, x.waits, s.waits);
  place = place (cases_lt 0 d.waits)
      ∙ ap (λ (u : List ℕ). (s.blocks + 1 - waiting n b m) % (length u / k)) (sym x.white);
}
  where
    count : 0 < length d.white / k
    count = omega (arith, ap (λ i. i / k) w, whole_packets n k b period p h)

    place : (0 < d.waits) ⊎ (d.waits ≤ 0) → e.place ≡ (s.blocks + 1 - waiting n b m) % (length d.white / k)
    place (inl l) = x.waiting l ∙ s.place ∙ ap (λ i. i % (length d.white / k)) (omega (arith, s.waits, l))
    place (inr l) = grind (arith, mod_below, place_next, eqb-true, eqb-false)

-- ---- parts of what leaves

pub take_leaving : (b n : ℕ) (v : Branching) (ys : List ℕ) → take n (leaving_all b v ys) ≡ leaving_all b v (take n ys)
unfolding leaving_all
take_leaving b zero v ys = refl
take_leaving b (suc n) v [] = refl
take_leaving b (suc n) v (x ∷ xs) = ap (λ zs. leaving v x ∷ zs) (take_leaving b n (after_byte b v x) xs)

pub drop_leaving : (b n : ℕ) (v : Branching) (ys : List ℕ)
    → drop n (leaving_all b v ys) ≡ leaving_all b (after_all b v (take n ys)) (drop n ys)
unfolding leaving_all after_all
drop_leaving b zero v ys = refl
drop_leaving b (suc n) v [] = refl
drop_leaving b (suc n) v (x ∷ xs) = drop_leaving b n (after_byte b v x) xs

-- block p of what leaves
pub block_leaving : (n b : ℕ) (before : List ℕ) (v : Branching) (ys : List ℕ) (p : ℕ)
    → block_behind n before (leaving_all b v ys) (suc p)
    ≡ leaving_all b (after_all b v (take (n * p) ys)) (take n (drop (n * p) ys))
block_leaving n b before v ys p = grind (arith, drop_leaving, take_leaving)

-- ---- four blocks

-- between two of them: so many blocks of the bytes have given what they give
abbrev pub between : ℕ → ℕ → Kept → Kept → List ℕ → ℕ → Kept
between n b d e bytes p = record e {
  branches = after_all b d.branches (take (n * p) bytes);
  before = block_behind n d.before (leaving_all b d.branches bytes) p;
}

pub between_first : (n k b m : ℕ) (d e : Kept) (y bytes : List ℕ) → e.white ≡ d.white → e.waits ≡ d.waits
    → e.place ≡ d.place → StandsFor n k b m d y → StandsFor n k b m (between n b d e bytes 0) (y ++ take (n * 0) bytes)
unfolding after_all
between_first n k b m d e y bytes ew et ep s = grind (arith, append-nil)

-- one block more of the bytes
one_more : (n p : ℕ) (bytes : List ℕ) → take (n * p) bytes ++ take n (drop (n * p) bytes) ≡ take (n * (p + 1)) bytes
one_more n p bytes = grind (arith, take-add)

pub between_next : (n k b m period : ℕ) (d e f : Kept) (y bytes : List ℕ) (p : ℕ) → 0 < k → IsPeriod n k b period
    → length e.white ≡ period → length (take n (drop (n * p) bytes)) ≡ n
    → StandsFor n k b m (between n b d e bytes p) (y ++ take (n * p) bytes) → IsNext k e f
    → StandsFor n k b m (between n b d f bytes (p + 1)) (y ++ take (n * (p + 1)) bytes)
between_next n k b m period d e f y bytes p h i w lb s x =
    let next : p + 1 ≡ suc p = omega arith in
    subst (StandsFor n k b m (between n b d f bytes (p + 1)))
    (append_assoc y (take (n * p) bytes) (take n (drop (n * p) bytes)) ∙ ap (λ zs. y ++ zs) (one_more n p bytes))
    (stands_next n k b m period (between n b d e bytes p) (between n b d f bytes (p + 1)) (y ++ take (n * p) bytes)
    (take n (drop (n * p) bytes)) h i w lb s (record {
      white = x.white;
      branches = ap (after_all b d.branches) (sym (one_more n p bytes))
          ∙ after_append b d.branches (take (n * p) bytes) (take n (drop (n * p) bytes));
      before = ap (block_behind n d.before (leaving_all b d.branches bytes)) next
          ∙ block_leaving n b d.before d.branches bytes p;
      waits = x.waits;
      waiting = x.waiting;
      given = x.given;
    }))

pub between_taken : (n k b m : ℕ) (d e : Kept) (y bytes gathered old new : List ℕ) (p : ℕ) (taken : Taken) → 0 < n
    → IsInterleaver b m → length (take n (drop (n * p) bytes)) ≡ n
    → StandsFor n k b m (between n b d e bytes p) (y ++ take (n * p) bytes)
    → gathered ≡ drop (completing n b m) (block_behind n d.before (leaving_all b d.branches bytes) p)
    ++ take (completing n b m) (block_behind n d.before (leaving_all b d.branches bytes) (suc p))
    → (0 < e.waits → (taken ≡ None) × (new ≡ old)) → (e.waits ≡ 0 → Gives n k e.white (k * e.place) gathered new taken)
    → IsTaken n k b m e.white (y ++ take (n * p) bytes) (take n (drop (n * p) bytes)) old new taken
between_taken n k b m d e y bytes gathered old new p taken h i lb s w f g =
    taken_next n k b m (between n b d e bytes p) (y ++ take (n * p) bytes) (take n (drop (n * p) bytes)) gathered old
    new taken h i lb s (grind (arith, block_leaving)) f g

pub between_last : (n k b m : ℕ) (d e : Kept) (y bytes : List ℕ) (p : ℕ) → p ≡ 4 → length bytes ≡ n * 4
    → e.branches ≡ after_all b d.branches bytes → e.before ≡ block_behind n d.before (leaving_all b d.branches bytes) 4
    → StandsFor n k b m (between n b d e bytes p) (y ++ take (n * p) bytes) → StandsFor n k b m e (y ++ bytes)
between_last n k b m d e y bytes p q l eb ev s = grind (arith, take_all)

-- a block of four
pub block_long : (n p : ℕ) (bytes : List ℕ) → length bytes ≡ n * 4 → p < 4 → length (take n (drop (n * p) bytes)) ≡ n
block_long n p bytes l h = grind (arith, mul-le-mul_left, length-take-le, length-drop)

-- one element more of two lists that are set from their fronts on
pub set_further : {A B : Type 0} (xs : List A) (ys : List B) (i : ℕ) (x d : A) (y e : B) (P : ℕ → A → B → Type 0)
    → i < length xs → i < length ys → ((j : ℕ) → j < i → P j (get_or xs j d) (get_or ys j e)) → P i x y
    → (j : ℕ) → j < i + 1 → P j (get_or (set xs i x) j d) (get_or (set ys i y) j e)
set_further xs ys i x d y e P lx ly before here j h = elim (cases_lt j i) [
  | inl k ↦
      let other : j ≡ i → ⊥ = λ q. omega (arith, q, k) in
      subst (λ a. P j a (get_or (set ys i y) j e)) (sym (get_or-set_other xs i j x d other))
      (subst (P j (get_or xs j d)) (sym (get_or-set_other ys i j y e other)) (before j k))
  | inr k ↦
      let q : i ≡ j = omega (arith, h, k) in
      rw (← q) (subst (λ a. P i a (get_or (set ys i y) i e)) (sym (get_or-set_same xs i x d lx))
      (subst (P i x) (sym (get_or-set_same ys i y e ly)) here))
]

-- four elements that are set one after the other
pub four_set : {A : Type 0} (xs : List (List A)) (a b c d : List A) (f : ℕ → List A) → length xs ≡ 4 → a ≡ f 0 → b ≡ f 1
    → c ≡ f 2 → d ≡ f 3 → (p : ℕ) → p < 4 → get_or (set (set (set (set xs 0 a) 1 b) 2 c) 3 d) p [] ≡ f p
four_set (w ∷ x ∷ y ∷ z ∷ []) a b c d f e h i j k p l = grind arith
four_set [] a b c d f e h i j k p l = absurd (omega (arith, e))
four_set (w ∷ []) a b c d f e h i j k p l = absurd (omega (arith, e))
four_set (w ∷ x ∷ []) a b c d f e h i j k p l = absurd (omega (arith, e))
four_set (w ∷ x ∷ y ∷ []) a b c d f e h i j k p l = absurd (omega (arith, e))
four_set (w ∷ x ∷ y ∷ z ∷ v ∷ vs) a b c d f e h i j k p l = absurd (omega (arith, e))
