-- What each part of a call makes of a leveller, case by case.
use Rattle.std.proofs.Common.{◌≡◌, ℕ, ℤ, ◌+◌, ◌-◌, ◌*◌, ◌≤◌, refl, ap, ◌∙◌, arith, List, map, length, sym, subst, Bool}
use Rattle.std.proofs.Common.{[], true, false, cond, take, drop, None, Option, Some, ◌⊎◌, inl, inr}
use Rattle.std.proofs.lemmas.Bool.{cond-true, cond-false, true≢false, cases_eq, false≢true, eq-eqb, ne_eqb}
use Rattle.std.proofs.lemmas.List.{length-map, length-take-le, length-drop, length-take}
use Rattle.dtx_acquire.proofs.PlacesLemmas.{least_gives}
use Rattle.dtx_level.proofs.Shows.{shows_dropped}
use Rattle.dtx_level.specs.Levelled.{By, by_sync, level}
use Rattle.dtx_level.specs.Leveller.{Holding, as_list, stretched, settled, sought, sought_at, step_at, closed}
use Rattle.dtx_level.specs.Shown.{least_shown, shows}
use Rattle.dtx_level.specs.declared.step.Step.{Step}

pub by_is : (b c : Bool) (g h o p : ℤ) → b ≡ c → g ≡ h → o ≡ p
    → ◌≡◌ {A = By} (record { begun = b; gain = g; constant = o }) (record { begun = c; gain = h; constant = p })
by_is b c g h o p e f k = cc

-- ---- a sync is sought

pub sought_on : (h : Holding) → h.on ≡ true → sought h ≡ h
unfolding sought
sought_on h e = cond-true h.on _ _ e

pub sought_off : (h : Holding) (o : Option ℕ) → h.on ≡ false → least_shown h.held 0 ≡ o → sought h ≡ sought_at h o
unfolding sought
sought_off h o e g = cond-false h.on _ _ e ∙ ap (sought_at h) g

pub by_sought : (P : Holding → Type 0) (h : Holding) → (h.on ≡ true → P h)
    → (h.on ≡ false → (o : Option ℕ) → least_shown h.held 0 ≡ o → P (sought_at h o)) → P (sought h)
by_sought P h on off = by_on h.on refl
  where
    by_on : (b : Bool) → h.on ≡ b → P (sought h)
    by_on true e = subst P (sym (sought_on h e)) (on e)
    by_on false e = subst P (sym (sought_off h _ e refl)) (off e (least_shown h.held 0) refl)

-- ---- the step of a sync in front

-- how many symbols it levels, and where the next sync is
pub record IsStep (symbols : List ℤ) (step : Step) : Type 0 where
  pub some : 832 ≤ step.count
  pub most : step.count ≤ length symbols
  pub next : step.on ≡ true → shows (drop step.count symbols) 0 ≡ true
  pub off : step.on ≡ false → step.count ≡ 260417

pub step_is : (symbols : List ℤ) → length symbols ≡ 261248 → IsStep symbols (step_at symbols)
unfolding step_at
step_is symbols full = grind (arith, shows_dropped, false≢true, least_gives, true≢false)

-- ---- the sync in front is settled

pub settled_off : (h : Holding) → h.on ≡ false → settled h ≡ h
unfolding settled
settled_off h e = cond-false h.on _ _ e

pub settled_short : (h : Holding) → (length h.held ≡ 261248 → ⊥) → settled h ≡ h
unfolding settled
settled_short h short = grind (arith, cond-false, ne_eqb)

pub settled_full : (h : Holding) → h.on ≡ true → length h.held ≡ 261248 → settled h ≡ stretched h (step_at h.held)
unfolding settled
settled_full h e full = grind (arith, cond-true, eq-eqb)

-- either nothing changes, or the sync in front levels its symbols
pub by_settled : (P : Holding → Type 0) (h : Holding) → ((h.on ≡ true → length h.held ≡ 261248 → ⊥) → P h)
    → (h.on ≡ true → length h.held ≡ 261248 → P (stretched h (step_at h.held))) → P (settled h)
by_settled P h stays steps = by_on h.on refl (cases_eq (length h.held) 261248)
  where
    by_on : (b : Bool) → h.on ≡ b → (length h.held ≡ 261248) ⊎ (length h.held ≡ 261248 → ⊥) → P (settled h)
    by_on false e full = subst P (sym (settled_off h e)) (stays (λ f g. absurd (true≢false (sym f ∙ e))))
    by_on true e (inl full) = subst P (sym (settled_full h e full)) (steps e full)
    by_on true e (inr short) = subst P (sym (settled_short h short)) (stays (λ f g. short g))

-- ---- the end

pub closed_on : (h : Holding) → h.on ≡ true → closed h ≡ stretched h (record { count = length h.held; on = false })
unfolding closed
closed_on h e = cond-true h.on _ _ e

pub closed_begun : (h : Holding) → h.on ≡ false → h.by.begun ≡ true → closed h
    ≡ record h { held = drop (length h.held) h.held; given = map (level h.by) (take (length h.held) h.held) }
unfolding closed
closed_begun h e f = cond-false h.on _ _ e ∙ cond-true h.by.begun _ _ f

pub closed_none : (h : Holding) → h.on ≡ false → h.by.begun ≡ false → closed h ≡ h
unfolding closed
closed_none h e f = cond-false h.on _ _ e ∙ cond-false h.by.begun _ _ f

pub by_closed : (P : Holding → Type 0) (h : Holding)
    → (h.on ≡ true → P (stretched h (record { count = length h.held; on = false })))
    → (h.on ≡ false → h.by.begun ≡ true → P (record h {
      held = drop (length h.held) h.held;
      given = map (level h.by) (take (length h.held) h.held);
    })) → (h.on ≡ false → h.by.begun ≡ false → P h) → P (closed h)
by_closed P h on begun none = by_on h.on h.by.begun refl refl
  where
    by_on : (a b : Bool) → h.on ≡ a → h.by.begun ≡ b → P (closed h)
    by_on true b e f = subst P (sym (closed_on h e)) (on e)
    by_on false true e f = subst P (sym (closed_begun h e f)) (begun e f)
    by_on false false e f = subst P (sym (closed_none h e f)) (none e f)

-- ---- how many symbols are given and held

parted : (f : ℤ → ℤ) (count : ℕ) (xs : List ℤ) → length (map f (take count xs)) + length (drop count xs) ≡ length xs
parted f count xs = omega (arith, length-map (take count xs) f, length-take count xs, length-drop count xs)

pub sought_room : (h : Holding) → h.given ≡ [] → length (sought h).given + length (sought h).held ≤ length h.held
sought_room h none =
    by_sought (λ new. length new.given + length new.held ≤ length h.held) h (λ e. omega (arith, ap length none))
    (λ e o g. by_least o)
  where
    given : (b : Bool) (count : ℕ) → length (cond b (map (level h.by) (take count h.held)) h.given)
        + length (drop count h.held) ≤ length h.held
    given true count = omega (arith, parted (level h.by) count h.held)
    given false count = omega (arith, ap length none, length-drop count h.held)

    by_least : (o : Option ℕ) → length (sought_at h o).given + length (sought_at h o).held ≤ length h.held
    by_least None = given h.by.begun (length h.held - 831)
    by_least (Some p) = omega (arith, parted (level h.by) p h.held)

-- the rest stays
pub sought_same : (h : Holding) → ((sought h).measured ≡ h.measured) × ((sought h).symbols ≡ h.symbols)
sought_same h = by_sought (λ new. (new.measured ≡ h.measured) × (new.symbols ≡ h.symbols)) h (λ e. (refl, refl))
    (λ e o g. by_least o)
  where
    by_least : (o : Option ℕ) → ((sought_at h o).measured ≡ h.measured) × ((sought_at h o).symbols ≡ h.symbols)
    by_least None = (refl, refl)
    by_least (Some p) = (refl, refl)

pub settled_room : (h : Holding) → length (settled h).given + length (settled h).held ≤ length h.given + length h.held
settled_room h =
    by_settled (λ new. length new.given + length new.held ≤ length h.given + length h.held) h (λ n. omega arith)
    (λ e full. omega (arith, parted (level (by_sync h.held 0)) (step_at h.held).count h.held))

-- of a sync that is measured as many symbols are given as a segment has
pub settled_lines : (h : Holding) → h.measured ≡ None
    → 832 * length (as_list (settled h).measured) ≤ length (settled h).given
settled_lines h none = by_settled (λ new. 832 * length (as_list new.measured) ≤ length new.given) h (λ n. grind arith)
    (λ e full. (grind (arith, step_is, length-map, length-take-le)))

pub settled_same : (h : Holding) → ((settled h).zeros ≡ h.zeros) × ((settled h).symbols ≡ h.symbols)
settled_same h = by_settled (λ new. (new.zeros ≡ h.zeros) × (new.symbols ≡ h.symbols)) h (λ n. (refl, refl))
    (λ e full. (refl, refl))

pub closed_room : (h : Holding) → h.given ≡ [] → (length (closed h).given ≤ length h.held)
    × ((closed h).symbols ≡ h.symbols)
closed_room h none = by_closed (λ new. (length new.given ≤ length h.held) × (new.symbols ≡ h.symbols)) h
    (λ e. (grind (arith, parted))) (λ e f. (grind (arith, parted))) (λ e f. (omega (arith, ap length none), refl))
