-- From one stage of the method of Berlekamp and Massey to the next.
use Rattle.std.proofs.Common.{◌≡◌, ◌≢◌, ℕ, zero, suc, ◌+◌, ◌-◌, ◌*◌, ◌<◌, ◌≤◌, ◌⊎◌, inl, inr, bit_xor, refl, sym, ap}
use Rattle.std.proofs.Common.{ap₂, ◌∙◌, subst, arith, add-one, get_or, replicate}
use Rattle.std.specs.Int.Bits.{xor_zero_r, xor_self}
use Rattle.dtx_galois.specs.Field.{mul}
use Rattle.dtx_galois.proofs.FieldLemmas.{mul_comm, mul_assoc, mul_one, mul_zero}
use Rattle.dtx_fast.specs.Recurrence.{discrepancy, moved, IsRecurrence, IsLeast, IsStage}
use Rattle.dtx_fast.proofs.RecurrenceLemmas.{discrepancy_small, discrepancy_mended, discrepancy_moved}
use Rattle.dtx_fast.proofs.RecurrenceLemmas.{discrepancy_longer, same_coefficients, least_same, least_longer}

moved_below : (y k : ℕ) (b : ℕ → ℕ) → k < y → moved y b k ≡ 0
unfolding moved
moved_below zero k b l = absurd (omega arith)
moved_below (suc y) zero b l = refl
moved_below (suc y) (suc k) b l = moved_below y k b (omega arith)

moved_from : (y k : ℕ) (b : ℕ → ℕ) → y ≤ k → moved y b k ≡ b (k - y)
unfolding moved
moved_from zero k b l = ap b (omega arith)
moved_from (suc y) zero b l = absurd (omega arith)
moved_from (suc y) (suc k) b l = moved_from y k b (omega arith) ∙ ap b (omega arith)

-- the new coefficients by place
pub mended_at : (y last f : ℕ) (c d b : ℕ → ℕ) → ((k : ℕ) → k < y → d k ≡ c k)
    → ((k : ℕ) → y ≤ k → k ≤ last → d k ≡ bit_xor (c k) (mul f (b (k - y))))
    → ((k : ℕ) → y ≤ k → last < k → d k ≡ c k) → ((k : ℕ) → y ≤ k → last < k → b (k - y) ≡ 0)
    → (k : ℕ) → d k ≡ bit_xor (c k) (mul f (moved y b k))
mended_at y last f c d b low mid high none k = elim (places y last k) [
  | inl l ↦ low k l ∙ adds_none (moved y b k) (moved_below y k b l)
  | inr (l, inl m) ↦ mid k l m ∙ ap (λ x. bit_xor (c k) (mul f x)) (sym (moved_from y k b l))
  | inr (l, inr m) ↦ high k l m ∙ adds_none (moved y b k) (moved_from y k b l ∙ none k l m)
]
  where
    places : (y last k : ℕ) → (k < y) ⊎ ((y ≤ k) × ((k ≤ last) ⊎ (last < k)))
    places y last k = grind arith

    adds_none : (x : ℕ) → x ≡ 0 → c k ≡ bit_xor (c k) (mul f x)
    adds_none x e = sym (ap (bit_xor (c k)) (ap (mul f) e ∙ mul_zero f) ∙ xor_zero_r (c k))

-- over all coefficients that there is room for
wide : (l : ℕ) (c s : ℕ → ℕ) (n : ℕ) → l < 128 → ((k : ℕ) → l < k → c k ≡ 0)
    → discrepancy 128 c s n ≡ discrepancy (suc l) c s n
wide l c s n r h = ap (λ u. discrepancy u c s n) (omega arith)
    ∙ discrepancy_longer (suc l) (127 - l) c s n (λ k p q. h k (omega arith))

wide_moved : (y : ℕ) (b s : ℕ → ℕ) (n : ℕ) → y ≤ 128 → ((k : ℕ) → 128 - y ≤ k → b k ≡ 0)
    → discrepancy 128 (moved y b) s n ≡ discrepancy 128 b s (n - y)
wide_moved y b s n r h = ap (λ u. discrepancy u (moved y b) s n) (omega arith) ∙ discrepancy_moved y (128 - y) b s n
    ∙ sym (discrepancy_longer (128 - y) y b s (n - y) (λ k p q. h k p))
    ∙ ap (λ u. discrepancy u b s (n - y)) (omega arith)

cancels : (d g e : ℕ) → d < 256 → mul e g ≡ 1 → bit_xor d (mul (mul d g) e) ≡ 0
cancels d g e l h = rw (mul_assoc d g e, mul_comm g e, h, mul_comm d 1, mul_one d l, xor_self d)

-- what the lemmas below take: new coefficients, of order m
record AreMended (n l m gap inverse f : ℕ) (s c b d : ℕ → ℕ) : Type 0 where
  stage : IsStage n l gap inverse s c b
  longer : l ≤ m
  room : m < 128
  enough : n + 1 ≤ l + m
  factor : f ≡ mul (discrepancy (suc l) c s n) inverse
  at : (k : ℕ) → d k ≡ bit_xor (c k) (mul f (moved gap b k))

mended_behind : (n l m gap inverse f : ℕ) (s c b d : ℕ → ℕ) → AreMended n l m gap inverse f s c b d
    → (k : ℕ) → m < k → d k ≡ 0
mended_behind n l m gap inverse f s c b d h k r = grind (arith, moved_from, mul_zero)

mended_is : (n l m gap inverse f : ℕ) (s c b d : ℕ → ℕ) → AreMended n l m gap inverse f s c b d
    → (i : ℕ) → discrepancy (suc m) d s i ≡ bit_xor (discrepancy (suc l) c s i) (mul f (discrepancy 128 b s (i - gap)))
mended_is n l m gap inverse f s c b d h i = sym (wide m d s i h.room (mended_behind n l m gap inverse f s c b d h))
    ∙ same_coefficients 128 d (λ k. bit_xor (c k) (mul f (moved gap b k))) s i (λ k r. h.at k)
    ∙ discrepancy_mended 128 f c (moved gap b) s i ∙ ap₂ (λ (u v : ℕ). bit_xor u (mul f v))
    (wide l c s i (omega (arith, h.longer, h.room)) h.stage.behind) (grind (arith, wide_moved))

mended_next : (n l m gap inverse f : ℕ) (s c b d : ℕ → ℕ) → AreMended n l m gap inverse f s c b d
    → (i : ℕ) → m ≤ i → i < n + 1 → discrepancy (suc m) d s i ≡ 0
mended_next n l m gap inverse f s c b d h i p q =
    mended_is n l m gap inverse f s c b d h i ∙ by_term (last_or_before i n q)
  where
    last_or_before : (i n : ℕ) → i < n + 1 → (i < n) ⊎ (i ≡ n)
    last_or_before i n q = grind arith

    by_term : (i < n) ⊎ (i ≡ n) → bit_xor (discrepancy (suc l) c s i) (mul f (discrepancy 128 b s (i - gap))) ≡ 0
    by_term (inl r) = grind (arith, mul_zero)
    by_term (inr r) = grind (arith, cancels, discrepancy_small)

mended_newest : (n l m gap inverse f : ℕ) (s c b d : ℕ → ℕ) → AreMended n l m gap inverse f s c b d → d 0 ≡ 1
mended_newest n l m gap inverse f s c b d h = grind (arith, moved_below, mul_zero)

pub stage_recurs : (n l gap inverse : ℕ) (s c b : ℕ → ℕ) → IsStage n l gap inverse s c b → IsRecurrence n l s c
stage_recurs n l gap inverse s c b h = record { newest = h.newest; next = h.next }

-- ---- the stages

pub zeros_at : (n k : ℕ) → ◌≡◌ {A = ℕ} (get_or (replicate n 0) k 0) 0
zeros_at zero k = refl
zeros_at (suc n) zero = refl
zeros_at (suc n) (suc k) = zeros_at n k

pub first_stage : (s c b : ℕ → ℕ) → c 0 ≡ 1 → ((k : ℕ) → 0 < k → c k ≡ 0) → ((k : ℕ) → 0 < k → b k ≡ 0)
    → IsStage 0 0 1 1 s c b
first_stage s c b o z y = grind arith

least_next : (n l : ℕ) (s : ℕ → ℕ) → IsLeast (suc n) l s → IsLeast (n + 1) l s
least_next n l s h = subst (λ j. IsLeast j l s) (sym (add-one n)) h

-- where a term isn't given, the order grows
pub least_grown : (n l gap inverse : ℕ) (s c b : ℕ → ℕ) → IsStage n l gap inverse s c b
    → discrepancy (l + 1) c s n ≢ 0 → IsLeast (n + 1) (n + 1 - l) s
least_grown n l gap inverse s c b h o =
    least_next n (n + 1 - l) s (subst (λ j. IsLeast (suc n) (j - l) s) (sym (add-one n))
    (least_longer n l s c (stage_recurs n l gap inverse s c b h) (omega (arith, h.some, h.within))
    (λ z. o (ap (λ w. discrepancy w c s n) (add-one l) ∙ z))))

-- a term that the recurrence gives
pub stage_kept : (n l gap inverse : ℕ) (s c b : ℕ → ℕ) → IsStage n l gap inverse s c b → discrepancy (l + 1) c s n ≡ 0
    → IsStage (n + 1) l (gap + 1) inverse s c b
stage_kept n l gap inverse s c b h e = record {
  newest = h.newest;
  behind = h.behind;
  next = λ i p q. elim (last_or_before i n q) [
    | inl r ↦ h.next i p r
    | inr r ↦ ap (discrepancy (suc l) c s) r ∙ ap (λ w. discrepancy w c s n) (sym (add-one l)) ∙ e
  ];
  least = least_next n l s (least_same n l s h.least);
  some = omega arith;
  within = omega (arith, h.within);
  before_behind = λ k r. h.before_behind k (omega arith);
  before_next = λ i p q. h.before_next i (omega arith) (omega arith);
  before_fails = λ r. ap (λ j. mul (discrepancy 128 b s j) inverse) (both n gap) ∙ h.before_fails (omega arith);
}
  where
    last_or_before : (i n : ℕ) → i < n + 1 → (i < n) ⊎ (i ≡ n)
    last_or_before i n q = grind arith

    both : (n gap : ℕ) → n + 1 - (gap + 1) ≡ n - gap
    both n gap = omega arith

-- a term for which the order is enough
pub stage_mended : (n l gap inverse f : ℕ) (s c b d : ℕ → ℕ) → IsStage n l gap inverse s c b → l < 128 → n < 2 * l
    → f ≡ mul (discrepancy (l + 1) c s n) inverse → ((k : ℕ) → d k ≡ bit_xor (c k) (mul f (moved gap b k)))
    → IsStage (n + 1) l (gap + 1) inverse s d b
stage_mended n l gap inverse f s c b d h r t e g = record {
  newest = mended_newest n l l gap inverse f s c b d (grind (arith, add-one));
  behind = mended_behind n l l gap inverse f s c b d (grind (arith, add-one));
  next = mended_next n l l gap inverse f s c b d (grind (arith, add-one));
  least = least_next n l s (least_same n l s h.least);
  some = omega arith;
  within = omega (arith, h.within);
  before_behind = λ k r. h.before_behind k (omega arith);
  before_next = λ i p q. h.before_next i (omega arith) (omega arith);
  before_fails = λ r. ap (λ j. mul (discrepancy 128 b s j) inverse) (omega arith) ∙ h.before_fails (omega arith);
}

-- a term for which it isn't
pub stage_raised : (n l gap inverse f again : ℕ) (s c b d : ℕ → ℕ) → IsStage n l gap inverse s c b → 2 * l ≤ n
    → n + 1 - l < 128 → discrepancy (l + 1) c s n ≢ 0 → mul (discrepancy (l + 1) c s n) again ≡ 1
    → f ≡ mul (discrepancy (l + 1) c s n) inverse → ((k : ℕ) → d k ≡ bit_xor (c k) (mul f (moved gap b k)))
    → IsStage (n + 1) (n + 1 - l) 1 again s d c
stage_raised n l gap inverse f again s c b d h t r o a e g = record {
  newest = mended_newest n l (n + 1 - l) gap inverse f s c b d (grind (arith, add-one));
  behind = mended_behind n l (n + 1 - l) gap inverse f s c b d (grind (arith, add-one));
  next = mended_next n l (n + 1 - l) gap inverse f s c b d (grind (arith, add-one));
  least = least_grown n l gap inverse s c b h o;
  some = omega arith;
  within = omega arith;
  before_behind = λ k q. h.behind k (behind n l k q t);
  before_next = λ i p q. wide l c s i (omega arith) h.behind ∙ h.next i (omega arith) (omega arith);
  before_fails = λ q. ap (λ j. mul (discrepancy 128 c s j) again) (omega arith)
      ∙ ap (λ (x : ℕ). mul x again) (wide l c s n (omega arith) h.behind
      ∙ ap (λ w. discrepancy w c s n) (sym (add-one l))) ∙ a;
}
  where
    behind : (n l k : ℕ) → n + 1 + 1 < n + 1 - l + 1 + k → 2 * l ≤ n → l < k
    behind n l k q t = omega arith
