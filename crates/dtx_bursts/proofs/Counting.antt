-- A count of places is bounded by a number that rises at each of them.
use Rattle.std.proofs.Common.{◌≡◌, ℕ, zero, suc, ◌+◌, ◌<◌, ◌≤◌, ◌==◌, ◌||◌, ◌⊎◌, inl, inr, cond, Bool, true, false}
use Rattle.std.proofs.Common.{List, [], ◌∷◌, length, get_or, refl, ap, subst, subst₂, arith, nat_le, ◌&&◌, ◌-◌}
use Rattle.std.proofs.lemmas.Bool.{and_parts, cond-true, eq-eqb, leb-true}
use Rattle.dtx_laws.specs.Codeword.{distance}
use Rattle.dtx_erase.specs.Mending.{lost, unmarked_distance}
use Rattle.dtx_frame.proofs.CountsLemmas.{total}

pub total_rises : (f g : ℕ → ℕ) (a n : ℕ) → ((i : ℕ) → a ≤ i → i < a + n → g i + f i ≤ f (i + 1))
    → total g a n + f a ≤ f (a + n)
total_rises f g a zero h = subst (λ (n : ℕ). 0 + f a ≤ f n) (let e : a ≡ a + 0 = omega arith in e) (omega arith)
total_rises f g a (suc n) h =
    let first : g a + f a ≤ f (suc a) = grind arith in
    let rest : total g (suc a) n + f (suc a) ≤ f (suc a + n) = total_rises f g (suc a) n (λ i l m. grind arith) in
    let end : f (suc a + n) ≡ f (a + suc n) = ap f (let e : suc a + n ≡ a + suc n = omega arith in e) in
    omega (arith, first, rest, end)

-- places where two words differ
pub distance_within : (g : ℕ → ℕ) (a : ℕ) (xs ys : List ℕ)
    → ((i : ℕ) → i < length xs → cond (get_or xs i 0 == get_or ys i 0) 0 1 ≤ g (a + i))
    → distance xs ys ≤ total g a (length xs)
distance_within g a [] ys h = omega arith
distance_within g a (x ∷ xs) [] h = omega arith
distance_within g a (x ∷ xs) (y ∷ ys) h =
    let first : cond (x == y) 0 1 ≤ g a =
    subst (λ (i : ℕ). cond (x == y) 0 1 ≤ g i) (let e : a + 0 ≡ a = omega arith in e) (h 0 (omega arith)) in
    let rest : distance xs ys ≤ total g (suc a) (length xs) =
    distance_within g (suc a) xs ys (λ i l. subst (λ (n : ℕ). cond (get_or xs i 0 == get_or ys i 0) 0 1 ≤ g n)
    (let e : a + suc i ≡ suc a + i = omega arith in e) (h (suc i) (omega (arith, l)))) in
    omega (arith, first, rest)

-- marked places
pub lost_within : (g : ℕ → ℕ) (a : ℕ) (marks : List Bool)
    → ((i : ℕ) → i < length marks → cond (get_or marks i false) 1 0 ≤ g (a + i)) → lost marks ≤ total g a (length marks)
lost_within g a [] h = omega arith
lost_within g a (mark ∷ marks) h =
    let first : cond mark 1 0 ≤ g a =
    subst (λ (i : ℕ). cond mark 1 0 ≤ g i) (let e : a + 0 ≡ a = omega arith in e) (h 0 (omega arith)) in
    let rest : lost marks ≤ total g (suc a) (length marks) =
    lost_within g (suc a) marks (λ i l. subst (λ (n : ℕ). cond (get_or marks i false) 1 0 ≤ g n)
    (let e : a + suc i ≡ suc a + i = omega arith in e) (h (suc i) (omega (arith, l)))) in
    omega (arith, first, rest)

-- two words that differ in marked places alone
pub none_unmarked : (marks : List Bool) (xs ys : List ℕ)
    → ((i : ℕ) → i < length marks → (get_or marks i false ≡ true) ⊎ (get_or xs i 0 ≡ get_or ys i 0))
    → unmarked_distance marks xs ys ≡ 0
none_unmarked [] xs ys h = refl
none_unmarked (mark ∷ marks) [] ys h = refl
none_unmarked (mark ∷ marks) (x ∷ xs) [] h = refl
none_unmarked (mark ∷ marks) (x ∷ xs) (y ∷ ys) h =
    omega (arith, first mark (h 0 (omega arith)), none_unmarked marks xs ys (λ i l. h (suc i) (omega (arith, l))))
  where
    first : (mark : Bool) → (mark ≡ true) ⊎ (x ≡ y) → ◌≡◌ {A = ℕ} (cond (mark || x == y) 0 1) 0
    first true e = refl
    first false (inl e) = cc
    first false (inr e) = cond-true (x == y) 0 1 (eq-eqb x y e)

-- ---- no fewer

skip : (g : ℕ → ℕ) (a d n : ℕ) → total g (a + d) n ≤ total g a (d + n)
skip g a zero n = grind (arith, total)
skip g a (suc d) n =
    let x : suc a + d ≡ a + suc d = omega arith in
    let y : suc (d + n) ≡ suc d + n = omega arith in
    subst₂ (λ u v. total g u n ≤ total g a v) x y (omega (arith, skip g (suc a) d n))

-- whether these numbers rise from a on below an end, and each passes a test
abbrev pub rising : (ℕ → Bool) → ℕ → List ℕ → ℕ → Bool
rising t a [] end = nat_le a end
rising t a (k ∷ ks) end = nat_le a k && (t k && rising t (suc k) ks end)

rising_within : (t : ℕ → Bool) (ks : List ℕ) (a end : ℕ) → rising t a ks end ≡ true → a ≤ end
rising_within t [] a end e = leb-true a end e
rising_within t (k ∷ ks) a end e =
    let parts = and_parts (nat_le a k) (t k && rising t (suc k) ks end) e in
    let rest = and_parts (t k) (rising t (suc k) ks end) parts.1 in
    omega (arith, leb-true a k parts.0, rising_within t ks (suc k) end rest.1)

pub no_fewer : (g : ℕ → ℕ) (t : ℕ → Bool) → ((k : ℕ) → t k ≡ true → g k ≡ 1) → (ks : List ℕ) (a end : ℕ)
    → rising t a ks end ≡ true → length ks ≤ total g a (end - a)
no_fewer g t one [] a end e = omega arith
no_fewer g t one (k ∷ ks) a end e =
    let parts = and_parts (nat_le a k) (t k && rising t (suc k) ks end) e in
    let rest = and_parts (t k) (rising t (suc k) ks end) parts.1 in
    let l : a ≤ k = leb-true a k parts.0 in
    let u : suc k ≤ end = rising_within t ks (suc k) end rest.1 in
    let x : a + (k - a) ≡ k = omega (arith, l) in
    let y : k - a + suc (end - suc k) ≡ end - a = omega (arith, l, u) in
    count (length ks) (g k) (total g (suc k) (end - suc k)) (total g a (end - a)) (one k rest.0)
    (no_fewer g t one ks (suc k) end rest.1)
    (subst₂ (λ v w. total g v (suc (end - suc k)) ≤ total g a w) x y (skip g a (k - a) (suc (end - suc k))))
  where
    count : (n x y z : ℕ) → x ≡ 1 → n ≤ y → x + y ≤ z → suc n ≤ z
    count n x y z e l m = omega (arith, e, l, m)

pub distance_least : (g : ℕ → ℕ) (a : ℕ) (xs ys : List ℕ) → length xs ≡ length ys
    → ((i : ℕ) → i < length xs → g (a + i) ≤ cond (get_or xs i 0 == get_or ys i 0) 0 1)
    → total g a (length xs) ≤ distance xs ys
distance_least g a [] ys e h = omega arith
distance_least g a (x ∷ xs) [] e h = absurd (omega (arith, e))
distance_least g a (x ∷ xs) (y ∷ ys) e h =
    let first : g a ≤ cond (x == y) 0 1 =
    subst (λ (i : ℕ). g i ≤ cond (x == y) 0 1) (let e : a + 0 ≡ a = omega arith in e) (h 0 (omega arith)) in
    let rest : total g (suc a) (length xs) ≤ distance xs ys =
    distance_least g (suc a) xs ys (omega (arith, e)) (λ i l. subst (λ (n : ℕ). g n
    ≤ cond (get_or xs i 0 == get_or ys i 0) 0 1) (grind arith) (h (suc i) (omega (arith, l)))) in
    omega (arith, first, rest)

pub lost_least : (g : ℕ → ℕ) (a : ℕ) (marks : List Bool)
    → ((i : ℕ) → i < length marks → g (a + i) ≤ cond (get_or marks i false) 1 0) → total g a (length marks) ≤ lost marks
lost_least g a [] h = omega arith
lost_least g a (mark ∷ marks) h =
    let first : g a ≤ cond mark 1 0 =
    subst (λ (i : ℕ). g i ≤ cond mark 1 0) (let e : a + 0 ≡ a = omega arith in e) (h 0 (omega arith)) in
    let rest : total g (suc a) (length marks) ≤ lost marks =
    lost_least g (suc a) marks (λ i l. subst (λ (n : ℕ). g n ≤ cond (get_or marks i false) 1 0)
    (let e : a + suc i ≡ suc a + i = omega arith in e) (h (suc i) (omega (arith, l)))) in
    omega (arith, first, rest)
