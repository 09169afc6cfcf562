-- Wrong bytes in a row: the interleaver spreads 96 of them so that no word has more than eight.
use Rattle.std.proofs.Common.{◌≡◌, ℕ, suc, ◌+◌, ◌-◌, ◌*◌, ◌/◌, ◌%◌, ◌<◌, ◌≤◌, ◌⊎◌, ◌==◌, cond, min, max, List, [], ◌∷◌}
use Rattle.std.proofs.Common.{length, get_or, inl, inr, sym, ap, ◌∙◌, subst, arith}
use Rattle.std.proofs.lemmas.Bool.{cases_lt, cond-true, eq-eqb}
use Rattle.dtx_laws.specs.Codeword.{distance}
use Rattle.dtx_outer.specs.Inner.{codeword_byte_place, word_at}
use Rattle.dtx_outer.proofs.WordsLemmas.{length-word, get_or-word}
use Rattle.dtx_dvb.specs.Stream.{dvb}
use Rattle.dtx_dvb.specs.Damage.{wrong_in, IsSlight, IsBurst}
use Rattle.dtx_dvb.proofs.BackLemmas.{word_is}

-- ---- a distance by a number that rises at each place where the words differ

-- From place o on, f never falls, and rises where the words differ.
record Rises (f : ℕ → ℕ) (o : ℕ) (xs ys : List ℕ) : Type 0 where
  pub never_falls : (i j : ℕ) → i < length xs → j ≡ o + i → f j ≤ f (j + 1)
  pub rises : (i j : ℕ) → i < length xs → j ≡ o + i → (get_or xs i 0 ≡ get_or ys i 0) ⊎ (f j + 1 ≤ f (j + 1))

cost : (x y a b : ℕ) → a ≤ b → (x ≡ y) ⊎ (a + 1 ≤ b) → cond (x == y) 0 1 + a ≤ b
cost x y a b l (inl e) = omega (arith, l, cond-true {A = ℕ} (x == y) 0 1 (eq-eqb x y e))
cost x y a b l (inr m) = grind arith

by_rises : (f : ℕ → ℕ) (o : ℕ) (xs ys : List ℕ) → length xs ≡ length ys → Rises f o xs ys
    → distance xs ys + f o ≤ f (o + length xs)
by_rises f o [] ys l r = subst (λ (n : ℕ). 0 + f o ≤ f n) (let e : o ≡ o + 0 = omega arith in e) (omega arith)
by_rises f o (x ∷ xs) [] l r = absurd (omega arith)
by_rises f o (x ∷ xs) (y ∷ ys) l r =
    let first : cond (x == y) 0 1 + f o ≤ f (o + 1) =
    cost x y (f o) (f (o + 1)) (r.never_falls 0 o (omega arith) (omega arith))
    (r.rises 0 o (omega arith) (omega arith)) in
    let rest : distance xs ys + f (o + 1) ≤ f (o + 1 + length xs) = by_rises f (o + 1) xs ys (omega arith) (record {
      never_falls = λ i j h e. r.never_falls (suc i) j (omega (arith, h)) (omega (arith, e));
      rises = λ i j h e. r.rises (suc i) j (omega (arith, h)) (omega (arith, e));
    }) in
    let end : f (o + 1 + length xs) ≡ f (o + length (x ∷ xs)) = ap f (grind arith) in
    omega (arith, first, rest, end)

-- ---- the places of a word in a row of bytes

-- byte j of word k stands at this place
abbrev place : ℕ → ℕ → ℕ
place k j = 204 * k + j + 204 * (j % 12)

-- Word k of a row of 96 bytes from place 204 * q + a on: its places there are those of residue q - k in the row's first
-- block, and of residue q + 1 - k in its second. Each line counts those before place j.
abbrev first_count : ℕ → ℕ → ℕ → ℕ
first_count a r j = (max a (min j (min 204 (a + 96))) + 11 - r) / 12

abbrev second_count : ℕ → ℕ → ℕ → ℕ
second_count a r j = (min j (a - 108) + 11 - r) / 12

first_step : (k q a r j : ℕ) → a < 204 → r < 12 → j < 204 → k + r ≡ q → j % 12 ≡ r → a ≤ j → j < a + 96
    → first_count a r j + 1 ≤ first_count a r (j + 1)
first_step k q a r j la lr lj e f g h = omega arith

second_step : (a r j : ℕ) → a < 204 → r < 12 → j < 204 → j % 12 ≡ r → j + 108 < a
    → second_count a r j + 1 ≤ second_count a r (j + 1)
second_step a r j la lr lj f g = omega arith

first_never : (a r j : ℕ) → first_count a r j ≤ first_count a r (j + 1)
first_never a r j = omega arith

second_never : (a r j : ℕ) → second_count a r j ≤ second_count a r (j + 1)
second_never a r j = omega arith

both_few : (a r : ℕ) → a < 204 → r < 11 → first_count a r 204 + second_count a (r + 1) 204
    ≤ first_count a r 0 + second_count a (r + 1) 0 + 8
both_few a r la lr = omega arith

first_few : (a r : ℕ) → a < 204 → r < 12 → first_count a r 204 ≤ first_count a r 0 + 8
first_few a r la lr = omega arith

second_few : (a r : ℕ) → a < 204 → r < 12 → second_count a r 204 ≤ second_count a r 0 + 8
second_few a r la lr = omega arith

-- a place of the word in the row of bytes
record InFirst (k a j : ℕ) : Type 0 where
  pub residue : k + j % 12 ≡ a / 204
  pub from : a % 204 ≤ j
  pub to : j < a % 204 + 96

record InSecond (k a j : ℕ) : Type 0 where
  pub residue : k + j % 12 ≡ a / 204 + 1
  pub to : j + 108 < a % 204

in_row : (k a j : ℕ) → j < 204 → a ≤ place k j → place k j < a + 96 → InFirst k a j ⊎ InSecond k a j
in_row k a j l f t = grind (arith, cases_lt)

-- Two words agree but in the places of word k in the row.
record Agree (k a : ℕ) (xs ys : List ℕ) : Type 0 where
  pub long : length xs ≡ 204
  pub other : length ys ≡ 204
  pub others : (j : ℕ) → j < 204 → (place k j < a) ⊎ (a + 96 ≤ place k j) → get_or xs j 0 ≡ get_or ys j 0

-- a count of the word's places in the row
record Counts (k a : ℕ) (f : ℕ → ℕ) : Type 0 where
  pub never_falls : (j : ℕ) → j < 204 → f j ≤ f (j + 1)
  pub first : (j : ℕ) → j < 204 → InFirst k a j → f j + 1 ≤ f (j + 1)
  pub second : (j : ℕ) → j < 204 → InSecond k a j → f j + 1 ≤ f (j + 1)
  pub few : f 204 ≤ f 0 + 8

rises_by : (k a : ℕ) (f : ℕ → ℕ) (xs ys : List ℕ) → Agree k a xs ys → Counts k a f → (j : ℕ) → j < 204
    → (get_or xs j 0 ≡ get_or ys j 0) ⊎ (f j + 1 ≤ f (j + 1))
rises_by k a f xs ys g c j l = grind (arith, cases_lt, in_row)

few_differ : (k a : ℕ) (f : ℕ → ℕ) (xs ys : List ℕ) → Agree k a xs ys → Counts k a f → distance xs ys ≤ 8
few_differ k a f xs ys g c =
    let long : length xs ≡ 204 = g.long in
    let few : f 204 ≤ f 0 + 8 = c.few in
    let end : f (0 + length xs) ≡ f 204 = ap f (let e : 0 + length xs ≡ 204 = omega arith in e) in
    omega (arith, few, end, by_rises f 0 xs ys (long ∙ sym g.other) (grind (arith, rises_by)))

-- ---- the four ways in which word k may lie

lies_in_both : (k a r : ℕ) → k + r ≡ a / 204 → r < 11
    → Counts k a (λ j. first_count (a % 204) r j + second_count (a % 204) (r + 1) j)
lies_in_both k a r e l = record {
  never_falls = λ j m. omega (arith, first_never (a % 204) r j, second_never (a % 204) (r + 1) j);
  first = λ j m h. omega (
    arith,
    first_step k (a / 204) (a % 204) r j (omega arith) (omega (arith, l)) m e (omega (arith, e, h.residue)) h.from h.to,
    second_never (a % 204) (r + 1) j,
  );
  second = λ j m h. omega (
    arith,
    second_step (a % 204) (r + 1) j (omega arith) (omega (arith, l)) m (omega (arith, e, h.residue)) h.to,
    first_never (a % 204) r j,
  );
  few = both_few (a % 204) r (omega arith) l;
}

lies_in_first : (k a : ℕ) → k + 11 ≡ a / 204 → Counts k a (first_count (a % 204) 11)
lies_in_first k a e = record {
  never_falls = λ j m. first_never (a % 204) 11 j;
  first = λ j m h. first_step k (a / 204) (a % 204) 11 j (omega arith) (omega arith) m e (omega (arith, e, h.residue))
      h.from h.to;
  second = λ j m h. absurd (omega (arith, e, h.residue));
  few = first_few (a % 204) 11 (omega arith) (omega arith);
}

lies_in_second : (k a : ℕ) → k ≡ a / 204 + 1 → Counts k a (second_count (a % 204) 0)
lies_in_second k a e = record {
  never_falls = λ j m. second_never (a % 204) 0 j;
  first = λ j m h. absurd (omega (arith, e, h.residue));
  second = λ j m h. second_step (a % 204) 0 j (omega arith) (omega arith) m (omega (arith, e, h.residue)) h.to;
  few = second_few (a % 204) 0 (omega arith) (omega arith);
}

lies_elsewhere : (k a : ℕ) → (k + 11 < a / 204) ⊎ (a / 204 + 1 < k) → Counts k a (λ j. 0)
lies_elsewhere k a e = record {
  never_falls = λ j m. omega arith;
  first = λ j m h. absurd (not_first e j h);
  second = λ j m h. absurd (not_second e j h);
  few = omega arith;
}
  where
    not_first : (k + 11 < a / 204) ⊎ (a / 204 + 1 < k) → (j : ℕ) → InFirst k a j → ⊥
    not_first (inl l) j h = omega (arith, l, h.residue)
    not_first (inr l) j h = omega (arith, l, h.residue)

    not_second : (k + 11 < a / 204) ⊎ (a / 204 + 1 < k) → (j : ℕ) → InSecond k a j → ⊥
    not_second (inl l) j h = omega (arith, l, h.residue)
    not_second (inr l) j h = omega (arith, l, h.residue)

at_most_eight : (k a : ℕ) (xs ys : List ℕ) → Agree k a xs ys → distance xs ys ≤ 8
at_most_eight k a xs ys g = elim (cases_lt (a / 204) k) [
  | inl l ↦ behind l (cases_lt (a / 204 + 1) k)
  | inr l ↦ ahead l (cases_lt (k + 11) (a / 204))
]
  where
    behind : a / 204 < k → (a / 204 + 1 < k) ⊎ (k ≤ a / 204 + 1) → distance xs ys ≤ 8
    behind l (inl m) = few_differ k a (λ j. 0) xs ys g (lies_elsewhere k a (inr m))
    behind l (inr m) = few_differ k a (second_count (a % 204) 0) xs ys g (lies_in_second k a (omega (arith, l, m)))

    near : k ≤ a / 204 → a / 204 ≤ k + 11 → (a / 204 < k + 11) ⊎ (k + 11 ≤ a / 204) → distance xs ys ≤ 8
    near l h (inl m) =
        few_differ k a _ xs ys g (lies_in_both k a (a / 204 - k) (omega (arith, l)) (omega (arith, l, m)))
    near l h (inr m) = few_differ k a (first_count (a % 204) 11) xs ys g (lies_in_first k a (omega (arith, h, m)))

    ahead : k ≤ a / 204 → (k + 11 < a / 204) ⊎ (a / 204 ≤ k + 11) → distance xs ys ≤ 8
    ahead l (inl m) = few_differ k a (λ j. 0) xs ys g (lies_elsewhere k a (inl m))
    ahead l (inr m) = near l m (cases_lt (a / 204) (k + 11))

-- ---- a stream

place_of : (k j : ℕ) → codeword_byte_place 12 17 (204 * k + j) ≡ place k j
place_of k j = omega arith

there : (ps : List (List ℕ)) (k j : ℕ) → k + 11 < length ps → j < 204 → place k j < 204 * length ps
there ps k j l h = omega (arith, l, h)

words_agree : (ps : List (List ℕ)) (y : List ℕ) (a k : ℕ) → IsBurst ps y a → k + 11 < length ps
    → Agree k a (word_at 204 12 17 y k) (word_at 204 12 17 (dvb ps) k)
words_agree ps y a k b l = record {
  long = length-word 204 12 17 y k;
  other = length-word 204 12 17 (dvb ps) k;
  others = λ j h o. get_or-word 204 12 17 y k j h ∙ ap (λ i. get_or y i 0) (place_of k j)
      ∙ b.others (place k j) (subst (λ (n : ℕ). place k j < n) (sym b.as_many) (there ps k j l h)) o
      ∙ sym (get_or-word 204 12 17 (dvb ps) k j h ∙ ap (λ i. get_or (dvb ps) i 0) (place_of k j));
}

pub burst_slight : (ps : List (List ℕ)) (y : List ℕ) (a : ℕ) → IsBurst ps y a → IsSlight ps y
unfolding wrong_in
burst_slight ps y a b = record {
  as_many = b.as_many;
  near = λ k l. subst (λ (w : List ℕ). distance (word_at 204 12 17 y k) w ≤ 8) (word_is ps k l)
      (at_most_eight k a (word_at 204 12 17 y k) (word_at 204 12 17 (dvb ps) k) (words_agree ps y a k b l));
}
