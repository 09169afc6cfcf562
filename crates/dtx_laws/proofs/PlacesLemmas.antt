-- What leaves the branches, by its place.
use Rattle.std.proofs.Common.{[], ◌≡◌, ◌≢◌, ℕ, zero, suc, ◌+◌, ◌-◌, ◌*◌, ◌/◌, ◌%◌, ◌<◌, ◌≤◌, ◌⊎◌, ◌==◌, cond, Bool}
use Rattle.std.proofs.Common.{true, false, List, ◌∷◌, ◌++◌, length, get_or, set, drop, refl, sym, ap, ◌∙◌, subst, arith}
use Rattle.std.proofs.Common.{inl, inr, add-zero, nat_lt, div-add-mod', subst₂}
use Rattle.std.proofs.lemmas.Bool.{cases_lt, cases_eq, eqb-true, eqb-false, cond-true, cond-false, lt-ltb, le-ltb}
use Rattle.std.proofs.lemmas.List.{length-set, length-drop, length_push, get_or-set_same, get_or-set_other}
use Rattle.std.proofs.lemmas.List.{get_or_append_left, get_or_push, get_or-drop}
use Rattle.std.proofs.lemmas.Nat.{div-mul-add, mod-mul-add, mod_below}
use Rattle.dtx_laws.specs.Branches.{Branching, HasWidths, leaving, after_byte, leaving_all, after_all}

-- e i k is byte k of all that ever stands in branch i. After q whole turns and r bytes each list holds what it has not
-- given.
pub record Holds (b : ℕ) (w : ℕ → ℕ) (e : ℕ → ℕ → ℕ) (q r : ℕ) (lists : List (List ℕ)) : Type 0 where
  pub count : length lists ≡ b
  pub long : (i : ℕ) → i < b → length (get_or lists i []) ≡ w i
  pub early : (i j : ℕ) → i < r → j < w i → get_or (get_or lists i []) j 0 ≡ e i (q + 1 + j)
  pub late : (i j : ℕ) → r ≤ i → i < b → j < w i → get_or (get_or lists i []) j 0 ≡ e i (q + j)

cases_zero : (n : ℕ) → (n ≡ 0) ⊎ (0 < n)
cases_zero n = grind arith

-- the byte that leaves
pub leaving_is : (b : ℕ) (w : ℕ → ℕ) (e : ℕ → ℕ → ℕ) (q r : ℕ) (lists : List (List ℕ)) (byte : ℕ)
    → Holds b w e q r lists → r < b → byte ≡ e r (q + w r) → get_or (get_or lists r [] ++ byte ∷ []) 0 0 ≡ e r q
leaving_is b w e q r lists byte h l c = grind (arith, cases_zero, get_or_push, add-zero, get_or_append_left)

-- byte j of the list that has moved on
moved_is : (b : ℕ) (w : ℕ → ℕ) (e : ℕ → ℕ → ℕ) (q r j : ℕ) (lists : List (List ℕ)) (byte : ℕ) → Holds b w e q r lists
    → r < b → byte ≡ e r (q + w r) → j < w r → get_or (drop 1 (get_or lists r [] ++ byte ∷ [])) j 0 ≡ e r (q + 1 + j)
moved_is b w e q r j lists byte h l c k = get_or-drop 1 (get_or lists r [] ++ byte ∷ []) j 0
    ∙ by_cases (cases_lt (1 + j) (w r))
  where
    by_cases : (1 + j < w r) ⊎ (w r ≤ 1 + j) → get_or (get_or lists r [] ++ byte ∷ []) (1 + j) 0 ≡ e r (q + 1 + j)
    by_cases (inl p) = grind (arith, get_or_append_left)
    by_cases (inr p) = grind (arith, get_or_push)

pub length_moved : (xs : List ℕ) (y : ℕ) → length (drop 1 (xs ++ y ∷ [])) ≡ length xs
length_moved xs y = length-drop 1 (xs ++ y ∷ []) ∙ omega (arith, length_push xs y)

-- one byte further, in the same turn
pub Holds-step : (b : ℕ) (w : ℕ → ℕ) (e : ℕ → ℕ → ℕ) (q r : ℕ) (lists : List (List ℕ)) (byte : ℕ)
    → Holds b w e q r lists → r < b → byte ≡ e r (q + w r)
    → Holds b w e q (suc r) (set lists r (drop 1 (get_or lists r [] ++ byte ∷ [])))
Holds-step b w e q r lists byte h l c = record {
  count = length-set lists r (drop 1 (get_or lists r [] ++ byte ∷ [])) ∙ h.count;
  long = λ i p. elim (cases_eq i r) [
    | inl s ↦ rw s (ap length (get_or-set_same lists r (drop 1 (get_or lists r [] ++ byte ∷ [])) [] within)
        ∙ length_moved (get_or lists r []) byte ∙ h.long r l)
    | inr s ↦ ap length (get_or-set_other lists r i (drop 1 (get_or lists r [] ++ byte ∷ [])) [] s) ∙ h.long i p
  ];
  early = λ i j p k. early_cases i j p k (cases_eq i r);
  late = λ i j p o k. ap (λ (ys : List ℕ). get_or ys j 0)
      (get_or-set_other lists r i (drop 1 (get_or lists r [] ++ byte ∷ [])) [] (other i p))
      ∙ h.late i j (omega arith) o k;
}
  where
    within : r < length lists
    within = omega (arith, h.count)

    other : (i : ℕ) → suc r ≤ i → i ≢ r
    other i p = omega arith

    early_cases : (i j : ℕ) → i < suc r → j < w i → (i ≡ r) ⊎ (i ≡ r → ⊥)
        → get_or (get_or (set lists r (drop 1 (get_or lists r [] ++ byte ∷ []))) i []) j 0 ≡ e i (q + 1 + j)
    early_cases i j p k (inl s) = rw s (ap (λ (ys : List ℕ). get_or ys j 0) (get_or-set_same lists r
        (drop 1 (get_or lists r [] ++ byte ∷ [])) [] within)
        ∙ moved_is b w e q r j lists byte h l c (subst (λ (n : ℕ). j < w n) s k))
    early_cases i j p k (inr s) = grind (arith, get_or-set_other)

-- after a whole turn
pub Holds-turn : (b : ℕ) (w : ℕ → ℕ) (e : ℕ → ℕ → ℕ) (q : ℕ) (lists : List (List ℕ)) → Holds b w e q b lists
    → Holds b w e (q + 1) 0 lists
Holds-turn b w e q lists h = record {
  count = h.count;
  long = h.long;
  early = λ i j p k. absurd (omega arith);
  late = λ i j p o k. h.early i j o k;
}

Holds-next : (b : ℕ) (w : ℕ → ℕ) (e : ℕ → ℕ → ℕ) (q r : ℕ) (lists : List (List ℕ)) → (t : Bool) → (t ≡ true → r + 1 ≡ b)
    → Holds b w e q (suc r) lists → Holds b w e (cond t (q + 1) q) (cond t 0 (r + 1)) lists
Holds-next b w e q r lists true f h = Holds-turn b w e q lists (subst (λ (n : ℕ). Holds b w e q n lists) (omega arith
    ∙ f refl) h)
Holds-next b w e q r lists false f h = subst (λ (n : ℕ). Holds b w e q n lists) (omega arith) h

-- the turn and the byte of the next place
next_place : (b q r : ℕ) → 0 < b → r < b → (t : Bool) → (t ≡ true → r + 1 ≡ b) → (t ≡ false → r + 1 ≡ b → ⊥)
    → ((q * b + r + 1) / b ≡ cond t (q + 1) q) × ((q * b + r + 1) % b ≡ cond t 0 (r + 1))
next_place b q r p l true f g = (grind (arith, whole, div-mul-add, mod-mul-add))
  where
    whole : (true ≡ true → r + 1 ≡ b) → q * b + r + 1 ≡ (q + 1) * b + 0
    whole f = let e : r + 1 ≡ b = f refl in grind arith
next_place b q r p l false f g =
    let assoc : q * b + r + 1 ≡ q * b + (r + 1) = omega arith in
    let less : r + 1 < b = let h : r + 1 ≡ b → ⊥ = g refl in omega arith in (
      ap (λ n. n / b) assoc ∙ div-mul-add q b (r + 1) less,
      ap (λ n. n % b) assoc ∙ mod-mul-add q b (r + 1) less,
    )

abbrev pub Stands : ℕ → (ℕ → ℕ) → (ℕ → ℕ → ℕ) → ℕ → Branching → Type 0
Stands b w e n v = (v.next ≡ n % b) × Holds b w e (n / b) (n % b) v.lists

Stands-next : (b : ℕ) (w : ℕ → ℕ) (e : ℕ → ℕ → ℕ) (n : ℕ) (v : Branching) (byte : ℕ) → 0 < b → Stands b w e n v
    → byte ≡ e (n % b) (n / b + w (n % b)) → Stands b w e (n + 1) (after_byte b v byte)
Stands-next b w e n v byte p s c =
    let l : n % b < b = mod_below n b p in
    let pq : ((n / b * b + n % b + 1) / b ≡ cond (n % b + 1 == b) (n / b + 1) (n / b))
    × ((n / b * b + n % b + 1) % b ≡ cond (n % b + 1 == b) 0 (n % b + 1)) =
    next_place b (n / b) (n % b) p l (n % b + 1 == b) (eqb-true (n % b + 1) b) (eqb-false (n % b + 1) b) in
    let pl : n + 1 ≡ n / b * b + n % b + 1 = ap (λ x. x + 1) (sym (div-add-mod' n b)) in (
      ap (λ x. cond (x + 1 == b) 0 (x + 1)) s.0 ∙ sym (ap (λ x. x % b) pl ∙ pq.1),
      subst₂ (λ (x y : ℕ). Holds b w e x y (set v.lists v.next (drop 1 (get_or v.lists v.next [] ++ byte ∷ []))))
          (sym (ap (λ x. x / b) pl ∙ pq.0)) (sym (ap (λ x. x % b) pl ∙ pq.1))
          (rw s.0 (Holds-next b w e (n / b) (n % b) _ (n % b + 1 == b) (eqb-true (n % b + 1) b)
          (Holds-step b w e (n / b) (n % b) v.lists byte s.1 l c))),
    )

-- the branches after any bytes
pub Stands-all : (b : ℕ) (w : ℕ → ℕ) (e : ℕ → ℕ → ℕ) (n : ℕ) (v : Branching) (xs : List ℕ) → 0 < b → Stands b w e n v
    → ((k : ℕ) → k < length xs → get_or xs k 0 ≡ e ((n + k) % b) ((n + k) / b + w ((n + k) % b)))
    → Stands b w e (n + length xs) (after_all b v xs)
unfolding after_all
Stands-all b w e n v [] p s c = subst (λ (k : ℕ). Stands b w e k v) (sym (add-zero n)) s
Stands-all b w e n v (x ∷ xs) p s c =
    subst (λ (k : ℕ). Stands b w e k (after_all b (after_byte b v x) xs)) (sym (omega arith))
    (Stands-all b w e (n + 1) (after_byte b v x) xs p (Stands-next b w e n v x p s (rw (c 0 (omega arith), add-zero n)))
    (λ j m. c (suc j) (omega arith) ∙ ap (λ i. e (i % b) (i / b + w (i % b))) (omega arith)))

-- each byte that leaves
pub leaving_all_is : (b : ℕ) (w : ℕ → ℕ) (e : ℕ → ℕ → ℕ) (n : ℕ) (v : Branching) (xs : List ℕ) → 0 < b
    → Stands b w e n v → ((k : ℕ) → k < length xs → get_or xs k 0 ≡ e ((n + k) % b) ((n + k) / b + w ((n + k) % b)))
    → (k : ℕ) → k < length xs → get_or (leaving_all b v xs) k 0 ≡ e ((n + k) % b) ((n + k) / b)
unfolding leaving_all
leaving_all_is b w e n v [] p s c k l = absurd (omega arith)
leaving_all_is b w e n v (x ∷ xs) p s c zero l = ap (λ i. get_or (get_or v.lists i [] ++ x ∷ []) 0 0) s.0
    ∙ leaving_is b w e (n / b) (n % b) v.lists x s.1 (mod_below n b p)
    (c 0 (omega arith) ∙ ap (λ i. e (i % b) (i / b + w (i % b))) (add-zero n))
    ∙ ap (λ i. e (i % b) (i / b)) (sym (add-zero n))
leaving_all_is b w e n v (x ∷ xs) p s c (suc k) l = leaving_all_is b w e (n + 1) (after_byte b v x) xs p
    (Stands-next b w e n v x p s (c 0 (omega arith) ∙ ap (λ i. e (i % b) (i / b + w (i % b))) (add-zero n)))
    (λ j m'. c (suc j) (omega arith) ∙ ap (λ i. e (i % b) (i / b + w (i % b))) (omega arith)) k (omega arith)
    ∙ ap (λ i. e (i % b) (i / b)) (sym (omega arith))

-- ---- from an aligned value

-- all that ever stands in branch i: what it held, and then each b-th byte of x
unfoldable pub stream : ℕ → (ℕ → ℕ) → Branching → List ℕ → ℕ → ℕ → ℕ
stream b w v x i k = cond (nat_lt k (w i)) (get_or (get_or v.lists i []) k 0) (get_or x ((k - w i) * b + i) 0)

aligned_holds : (b : ℕ) (w : ℕ → ℕ) (v : Branching) (x : List ℕ) → HasWidths b w v
    → Holds b w (stream b w v x) 0 0 v.lists
unfolding stream
aligned_holds b w v x s = record {
  count = s.count;
  long = s.long;
  early = λ i j l k. absurd (omega arith);
  late = λ i j o l k. ap (λ (t : ℕ). get_or (get_or v.lists i []) t 0) (zero_add j)
      ∙ sym (cond-true (nat_lt (0 + j) (w i)) (get_or (get_or v.lists i []) (0 + j) 0)
      (get_or x ((0 + j - w i) * b + i) 0) (lt-ltb (0 + j) (w i) (omega arith)));
}
  where
    zero_add : (i : ℕ) → i ≡ 0 + i
    zero_add i = omega arith

arrives : (b : ℕ) (w : ℕ → ℕ) (v : Branching) (x : List ℕ) (n : ℕ)
    → get_or x n 0 ≡ stream b w v x (n % b) (n / b + w (n % b))
unfolding stream
arrives b w v x n = grind (arith, div-add-mod', cond-false, le-ltb)

zero_div : (b : ℕ) → 0 < b → (0 ≡ 0 / b) × (0 ≡ 0 % b)
zero_div b p = (omega arith, omega arith)

-- from an aligned value, whatever it held
pub aligned_gives : (b : ℕ) (w : ℕ → ℕ) (v : Branching) (xs : List ℕ) → 0 < b → HasWidths b w v → v.next ≡ 0
    → (n : ℕ) → n < length xs → get_or (leaving_all b v xs) n 0 ≡ stream b w v xs (n % b) (n / b)
aligned_gives b w v xs p s a n l = leaving_all_is b w (stream b w v xs) 0 v xs p (
  a ∙ (zero_div b p).1,
  subst₂ (λ (q r : ℕ). Holds b w (stream b w v xs) q r v.lists) (zero_div b p).0
      (zero_div b p).1 (aligned_holds b w v xs s),
) (λ j i. grind (arith, arrives)) n l ∙ ap (λ i. stream b w v xs (i % b) (i / b)) (sym (omega arith))

-- where its source has come
pub stream_come : (b : ℕ) (w : ℕ → ℕ) (v : Branching) (x : List ℕ) (i k : ℕ) → w i ≤ k
    → stream b w v x i k ≡ get_or x ((k - w i) * b + i) 0
unfolding stream
stream_come b w v x i k l = grind (arith, cond-false, le-ltb)

-- and where it has not
pub stream_held : (b : ℕ) (w : ℕ → ℕ) (v : Branching) (x : List ℕ) (i k : ℕ) → k < w i
    → stream b w v x i k ≡ get_or (get_or v.lists i []) k 0
unfolding stream
stream_held b w v x i k l = grind (arith, cond-true, lt-ltb)

pub length_leaving : (b : ℕ) (v : Branching) (xs : List ℕ) → length (leaving_all b v xs) ≡ length xs
unfolding leaving_all
length_leaving b v [] = refl
length_leaving b v (x ∷ xs) = ap suc (length_leaving b (after_byte b v x) xs)

-- any cut into calls
pub leaving_append : (b : ℕ) (v : Branching) (xs ys : List ℕ)
    → leaving_all b v (xs ++ ys) ≡ leaving_all b v xs ++ leaving_all b (after_all b v xs) ys
unfolding leaving_all after_all
leaving_append b v [] ys = refl
leaving_append b v (x ∷ xs) ys = ap (λ zs. leaving v x ∷ zs) (leaving_append b (after_byte b v x) xs ys)

pub after_append : (b : ℕ) (v : Branching) (xs ys : List ℕ)
    → after_all b v (xs ++ ys) ≡ after_all b (after_all b v xs) ys
unfolding after_all
after_append b v [] ys = refl
after_append b v (x ∷ xs) ys = after_append b (after_byte b v x) xs ys
