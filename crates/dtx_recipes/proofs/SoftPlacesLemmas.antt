-- Laws of the places of segments: what the next place is after one segment more, and that the places of a field follow
-- one another.
use Rattle.std.proofs.Common.{◌≡◌, ℕ, ℤ, ◌+◌, ◌-◌, ◌%◌, ◌<◌, ◌≤◌, ◌⊎◌, inl, inr, Bool, true, false, cond, Option, Some}
use Rattle.std.proofs.Common.{None, List, [], ◌∷◌, ◌++◌, length, take, unwrap_or, refl, sym, ap, ◌∙◌, subst, arith}
use Rattle.std.proofs.lemmas.Bool.{cases_lt, cond-false, eqb-true, eqb-false, ne_eqb}
use Rattle.std.proofs.lemmas.List.{append_assoc, append-nil, length_push, take-append-le}
use Rattle.std.proofs.Math.Seq.{take-append_seam}
use Rattle.dtx_frame.specs.Detection.{looks_like}
use Rattle.dtx_receiver.proofs.FollowingLemmas.{next_is}
use Rattle.dtx_receiver.specs.Runs.{sync_due, Tracked, tracked}
use Rattle.dtx_recipes.specs.Soft.{next_place, pending, place_in}

-- ---- the next place

after_due : (run : List (List ℤ)) (x : List ℤ) → length run % 313 ≡ 0 → place_in (Some (run ++ x ∷ [])) ≡ Some 0
unfolding sync_due
after_due run x e = grind (arith, length_push)

after_data : (run : List (List ℤ)) (x : List ℤ) (p : ℕ) → length run % 313 ≡ p + 1 → p + 1 < 312
    → place_in (Some (run ++ x ∷ [])) ≡ Some (p + 1)
unfolding sync_due
after_data run x p e l = grind (arith, length_push, cond-false, ne_eqb)

after_last : (run : List (List ℤ)) (x : List ℤ) → length run % 313 ≡ 312 → place_in (Some (run ++ x ∷ [])) ≡ None
unfolding sync_due
after_last run x e = grind (arith, length_push)

after_first : (x : List ℤ) → place_in (Some (x ∷ [])) ≡ Some 0
unfolding sync_due
after_first x = refl

is_due : (run : List (List ℤ)) → place_in (Some run) ≡ None → (sync_due run ≡ true) × (length run % 313 ≡ 0)
unfolding sync_due
is_due run h = grind (arith, eqb-true)

is_data : (run : List (List ℤ)) (p : ℕ) → place_in (Some run) ≡ Some p
    → (sync_due run ≡ false) × (length run % 313 ≡ p + 1)
unfolding sync_due
is_data run p h = grind (arith, eqb-false)

-- the run goes on with a segment (`with_run`), or ends before it (`without_run`)
abbrev with_run : List (List (List ℤ)) → List (List ℤ) → List ℤ → Tracked
with_run ended run x = record { ended = ended; run = Some (run ++ x ∷ []) }

abbrev without_run : List (List (List ℤ)) → List (List ℤ) → Tracked
without_run ended run = record { ended = ended ++ run ∷ []; run = None }

abbrev run_of : Tracked → Option (List (List ℤ))
run_of t = t.run

-- the place behind a segment that is no data, and is copied
pub place_copied : (s : List (List ℤ)) (x : List ℤ) → next_place s ≡ None
    → next_place (s ++ x ∷ []) ≡ cond (looks_like x) (Some 0) None
unfolding next_place
place_copied s x h = by_run (tracked s).run refl h
  where
    by_looks : (run : List (List ℤ)) (b : Bool) → length run % 313 ≡ 0
        → place_in (run_of (cond b (with_run (tracked s).ended run x) (without_run (tracked s).ended run)))
        ≡ cond b (Some 0) None
    by_looks run true e = after_due run x e
    by_looks run false e = refl

    by_first : (b : Bool) → place_in (cond b (Some (x ∷ [])) None) ≡ cond b (Some 0) None
    by_first true = after_first x
    by_first false = refl

    due_run : (run : List (List ℤ)) (b : Bool) → b ≡ true
        → cond b (cond (looks_like x) (with_run (tracked s).ended run x) (without_run (tracked s).ended run))
        (with_run (tracked s).ended run x)
        ≡ cond (looks_like x) (with_run (tracked s).ended run x) (without_run (tracked s).ended run)
    due_run run true e = refl
    due_run run false e = cc

    by_run : (o : Option (List (List ℤ))) → (tracked s).run ≡ o → place_in o ≡ None
        → place_in (tracked (s ++ x ∷ [])).run ≡ cond (looks_like x) (Some 0) None
    by_run None e h = ap (λ (t : Tracked). place_in t.run) (next_is s x None e) ∙ by_first (looks_like x)
    by_run (Some run) e h =
        let d = is_due run h in
        ap (λ (t : Tracked). place_in t.run) (next_is s x (Some run) e ∙ due_run run (sync_due run) d.0)
        ∙ by_looks run (looks_like x) d.1

-- a data segment: the run goes on with it
goes_on : (s : List (List ℤ)) (x : List ℤ) (p : ℕ) (o : Option (List (List ℤ))) → (tracked s).run ≡ o
    → place_in o ≡ Some p → (run : List (List ℤ)) × (length run % 313 ≡ p + 1)
    × (place_in (tracked (s ++ x ∷ [])).run ≡ place_in (Some (run ++ x ∷ [])))
goes_on s x p None e h = cc
goes_on s x p (Some run) e h =
    let d = is_data run p h in
    (run, d.1, ap (λ (t : Tracked). place_in t.run) (next_is s x (Some run) e ∙ data_run (sync_due run) d.0))
  where
    data_run : (b : Bool) → b ≡ false
        → cond b (cond (looks_like x) (with_run (tracked s).ended run x) (without_run (tracked s).ended run))
        (with_run (tracked s).ended run x) ≡ with_run (tracked s).ended run x
    data_run true e = cc
    data_run false e = refl

pub place_small : (s : List (List ℤ)) (p : ℕ) → next_place s ≡ Some p → p < 312
unfolding next_place
place_small s p h = (let r = goes_on s [] p (tracked s).run refl h in omega (arith, r.1))

pub place_on : (s : List (List ℤ)) (x : List ℤ) (p : ℕ) → next_place s ≡ Some p → p + 1 < 312
    → next_place (s ++ x ∷ []) ≡ Some (p + 1)
unfolding next_place
place_on s x p h l = (let r = goes_on s x p (tracked s).run refl h in r.2 ∙ after_data r.0 x p r.1 l)

pub place_ends : (s : List (List ℤ)) (x : List ℤ) → next_place s ≡ Some 311 → next_place (s ++ x ∷ []) ≡ None
unfolding next_place
place_ends s x h = (let r = goes_on s x 311 (tracked s).run refl h in r.2 ∙ after_last r.0 x r.1)

pub place_first : next_place [] ≡ None
unfolding next_place tracked
place_first = refl

-- ---- the places of all

-- The last n segments are the first n data segments of a field. Each data segment before them stands in a whole field,
-- whose 312 data segments are all before them.
pub record IsFollowed (s : List (List ℤ)) (n : ℕ) : Type 0 where
  pub within : n ≤ length s
  pub places : (j : ℕ) → j < n → next_place (take (length s - n + j) s) ≡ Some j
  pub closed : (i p : ℕ) → i < length s - n → next_place (take i s) ≡ Some p
      → (p ≤ i) × (i - p + 312 ≤ length s - n)

pub before_push : (s t : List (List ℤ)) (i : ℕ) → i ≤ length s → next_place (take i (s ++ t)) ≡ next_place (take i s)
before_push s t i l = ap next_place (take-append-le i s t l)

some_is : (p q : ℕ) → Some p ≡ Some q → p ≡ q
some_is p q e = cc

pub at_push : (s : List (List ℤ)) (x : List ℤ) (i : ℕ) → i ≡ length s → next_place (take i (s ++ x ∷ [])) ≡ next_place s
at_push s x i e = ap (λ n. next_place (take n (s ++ x ∷ []))) e ∙ ap next_place (take-append_seam s (x ∷ []))

pub follows_copied : (s : List (List ℤ)) (x : List ℤ) → IsFollowed s 0 → next_place s ≡ None
    → IsFollowed (s ++ x ∷ []) 0
follows_copied s x h none = record {
  within = omega arith;
  places = λ j l. absurd (omega arith);
  closed = λ i p l e. by_place i p l e (cases_lt i (length s));
}
  where
    by_place : (i p : ℕ) → i < length (s ++ x ∷ []) - 0 → next_place (take i (s ++ x ∷ [])) ≡ Some p
        → (i < length s) ⊎ (length s ≤ i) → (p ≤ i) × (i - p + 312 ≤ length (s ++ x ∷ []) - 0)
    by_place i p l e (inl m) =
        let c = h.closed i p (omega arith) (sym (before_push s (x ∷ []) i (omega arith)) ∙ e) in
        (c.0, omega (arith, c.1, length_push s x))
    by_place i p l e (inr m) = grind (arith, length_push, at_push)

pub follows_on : (s : List (List ℤ)) (x : List ℤ) (n : ℕ) → IsFollowed s n → next_place s ≡ Some n
    → IsFollowed (s ++ x ∷ []) (n + 1)
follows_on s x n h here = record {
  within = omega (arith, length_push s x, h.within);
  places = λ j l. by_place j l (cases_lt j n);
  closed = λ i p l e. (
      let long = length_push s x in
      let within = h.within in
      let c = h.closed i p (omega arith) (sym (before_push s (x ∷ []) i (omega arith)) ∙ e) in
      (c.0, omega (arith, c.1)));
}
  where
    by_place : (j : ℕ) → j < n + 1 → (j < n) ⊎ (n ≤ j)
        → next_place (take (length (s ++ x ∷ []) - (n + 1) + j) (s ++ x ∷ [])) ≡ Some j
    by_place j l (inl m) =
        let long = length_push s x in
        let within = h.within in
        let same : length (s ++ x ∷ []) - (n + 1) + j ≡ length s - n + j = omega arith in
        ap (λ k. next_place (take k (s ++ x ∷ []))) same ∙ before_push s (x ∷ []) (length s - n + j) (omega arith)
        ∙ h.places j m
    by_place j l (inr m) = grind (arith, length_push, at_push)

pub follows_full : (s : List (List ℤ)) (x : List ℤ) → IsFollowed s 311 → next_place s ≡ Some 311
    → IsFollowed (s ++ x ∷ []) 0
follows_full s x h here = record {
  within = omega arith;
  places = λ j l. absurd (omega arith);
  closed = λ i p l e. elim (cases_lt i (length s - 311)) [
    | inl m ↦
        let long = length_push s x in
        let within = h.within in
        let c = h.closed i p m (sym (before_push s (x ∷ []) i (omega arith)) ∙ e) in
        (c.0, omega (arith, c.1))
    | inr m ↦
        let long = length_push s x in
        let within = h.within in
        let j : length (s ++ x ∷ []) - 312 + (i - (length s - 311)) ≡ i = omega arith in
        let at = on.places (i - (length s - 311)) (omega arith) in
        let same : Some (i - (length s - 311)) ≡ Some p = sym at ∙ ap (λ k. next_place (take k (s ++ x ∷ []))) j ∙ e in
        let is = some_is (i - (length s - 311)) p same in
        (omega arith, omega arith)
  ];
}
  where
    on : IsFollowed (s ++ x ∷ []) 312
    on = follows_on s x 311 h here

-- ---- one segment after another

push_all : (P : List (List ℤ) → Type 0) → ((s : List (List ℤ)) (x : List ℤ) → P s → P (s ++ x ∷ []))
    → (s more : List (List ℤ)) → P s → P (s ++ more)
push_all P step s [] h = subst P (sym (append-nil s)) h
push_all P step s (x ∷ more) h =
    subst P (append_assoc s (x ∷ []) more) (push_all P step (s ++ x ∷ []) more (step s x h))

abbrev Follows : List (List ℤ) → Type 0
Follows s = IsFollowed s (pending s)

follows_push : (s : List (List ℤ)) (x : List ℤ) → Follows s → Follows (s ++ x ∷ [])
follows_push s x h = by_place (next_place s) refl
  where
    copied_back : (b : Bool) → IsFollowed (s ++ x ∷ []) 0
        → IsFollowed (s ++ x ∷ []) (unwrap_or (cond b (Some 0) None) 0)
    copied_back true k = k
    copied_back false k = k

    by_end : (p : ℕ) → next_place s ≡ Some p → IsFollowed s p → (p + 1 < 312) ⊎ (312 ≤ p + 1) → Follows (s ++ x ∷ [])
    by_end p e k (inl l) = subst (λ (o : Option ℕ). IsFollowed (s ++ x ∷ []) (unwrap_or o 0)) (sym (place_on s x p e l))
        (follows_on s x p k e)
    by_end p e k (inr l) =
        let small = place_small s p e in
        let full : next_place s ≡ Some 311 = e ∙ ap Some (omega arith) in
        subst (λ (o : Option ℕ). IsFollowed (s ++ x ∷ []) (unwrap_or o 0)) (sym (place_ends s x full))
        (follows_full s x (subst (IsFollowed s) (omega arith) k) full)

    by_place : (o : Option ℕ) → next_place s ≡ o → Follows (s ++ x ∷ [])
    by_place None e = subst (λ (o : Option ℕ). IsFollowed (s ++ x ∷ []) (unwrap_or o 0)) (sym (place_copied s x e))
        (copied_back (looks_like x) (follows_copied s x (subst (λ (o : Option ℕ). IsFollowed s (unwrap_or o 0)) e h) e))
    by_place (Some p) e = by_end p e (subst (λ (o : Option ℕ). IsFollowed s (unwrap_or o 0)) e h) (cases_lt (p + 1) 312)

follows_none : Follows []
follows_none = grind (arith, place_first)

-- for all segments
pub follows : (s : List (List ℤ)) → IsFollowed s (pending s)
follows s = push_all Follows follows_push [] s follows_none
