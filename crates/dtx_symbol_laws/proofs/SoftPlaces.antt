-- The places of a run's segments in their fields, and that the intervals of the runs stay.
use Rattle.std.proofs.Common.{◌≡◌, ℕ, ℤ, zero, suc, ◌+◌, ◌-◌, ◌%◌, ◌<◌, ◌≤◌, ◌⊎◌, inl, inr, Bool, true, cond, All, Some}
use Rattle.std.proofs.Common.{None, List, [], ◌∷◌, length, take, get_or, refl, sym, ap, ◌∙◌, arith}
use Rattle.std.proofs.lemmas.Bool.{cases_lt, cases_order}
use Rattle.std.proofs.lemmas.List.{take_more}
use Rattle.std.proofs.lemmas.List.Elements.{All-nil, All-cons, All-contains}
use Rattle.std.specs.List.{Contains}
use Rattle.dtx_frame.specs.Detection.{looks_like}
use Rattle.dtx_receiver.specs.Intervals.{AreRuns, IsRun, NoneLooks, looks_at}
use Rattle.dtx_recipes.specs.Soft.{next_place, place_at, soft_symbols}
use Rattle.dtx_recipes.proofs.SoftPlacesLemmas.{place_copied, place_ends, place_first, place_on}
use Rattle.dtx_symbol_laws.specs.SoftFields.{place_behind}
use Rattle.dtx_symbol_laws.proofs.SoftRuns.{copied, soft_length}

-- ---- one segment further

copied_on : (s : List (List ℤ)) (i : ℕ) → i < length s → place_at s i ≡ None
    → place_at s (i + 1) ≡ cond (looks_at s i) (Some 0) None
copied_on s i l h = ap next_place (take_more s i [] l) ∙ place_copied (take i s) (get_or s i []) h

data_on : (s : List (List ℤ)) (i p : ℕ) → i < length s → place_at s i ≡ Some p → p + 1 < 312
    → place_at s (i + 1) ≡ Some (p + 1)
data_on s i p l h k = ap next_place (take_more s i [] l) ∙ place_on (take i s) (get_or s i []) p h k

ends_on : (s : List (List ℤ)) (i : ℕ) → i < length s → place_at s i ≡ Some 311 → place_at s (i + 1) ≡ None
ends_on s i l h = ap next_place (take_more s i [] l) ∙ place_ends (take i s) (get_or s i []) h

-- where no segment looks like a field sync no place is there
pub none_from : (s : List (List ℤ)) (a b d : ℕ) → NoneLooks s a b → b ≤ length s → place_at s a ≡ None → a + d ≤ b
    → place_at s (a + d) ≡ None
none_from s a b zero h l here k = (let same : a + 0 ≡ a = omega arith in ap (λ i. place_at s i) same ∙ here)
none_from s a b (suc d) h l here k = ap (λ i. place_at s i) (omega arith)
    ∙ copied_on s (a + d) (omega arith) (none_from s a b d h l here (omega arith))
    ∙ ap (λ (b : Bool). cond b (Some 0) None) (h (a + d) (omega arith) (omega arith))

-- ---- in a run

-- a field sync stands wherever one is due among n segments
abbrev pub HasSyncs : List (List ℤ) → ℕ → ℕ → Type 0
HasSyncs s first n = (j : ℕ) → j < n → j % 313 ≡ 0 → looks_at s (first + j) ≡ true

pub in_run : (s : List (List ℤ)) (first n j : ℕ) → first + n ≤ length s → HasSyncs s first n
    → place_at s first ≡ None → j ≤ n → place_at s (first + j) ≡ place_behind (j % 313)
in_run s first n zero l h here k =
    let same : first + 0 ≡ first = omega arith in
    ap (λ i. place_at s i) same ∙ here
in_run s first n (suc j) l h here k =
    let next : first + suc j ≡ first + j + 1 = omega arith in
    ap (λ i. place_at s i) next ∙ by_place (j % 313) refl (in_run s first n j l h here (omega arith))
  where
    by_end : (p : ℕ) → j % 313 ≡ suc p → place_at s (first + j) ≡ Some p → (p + 1 < 312) ⊎ (312 ≤ p + 1)
        → place_at s (first + j + 1) ≡ place_behind (suc j % 313)
    by_end p e before (inl m) =
        let further : suc j % 313 ≡ suc (p + 1) = omega (arith, e) in
        data_on s (first + j) p (omega arith) before m ∙ ap place_behind (sym further)
    by_end p e before (inr m) = grind (arith, ends_on)

    by_place : (n : ℕ) → j % 313 ≡ n → place_at s (first + j) ≡ place_behind (j % 313)
        → place_at s (first + j + 1) ≡ place_behind (suc j % 313)
    by_place zero e before =
        let one : suc j % 313 ≡ 1 = omega (arith, e) in
        copied_on s (first + j) (omega arith) (before ∙ ap place_behind e)
        ∙ ap (λ (b : Bool). cond b (Some 0) None) (h j (omega arith) e) ∙ ap place_behind (sym one)
    by_place (suc p) e before = by_end p e (before ∙ ap place_behind e) (cases_lt (p + 1) 312)

-- ---- run after run

-- no place is there at the segment from which on runs are searched, where it is one of the list
abbrev pub Begins : List (List ℤ) → ℕ → Type 0
Begins s from = from ≤ length s → place_at s from ≡ None

pub begins_first : (s : List (List ℤ)) → Begins s 0
begins_first s l = place_first

pub run_begins : (s : List (List ℤ)) (from : ℕ) (p : ℕ × ℕ) → Begins s from → from ≤ p.0 → NoneLooks s from p.0
    → IsRun s p.0 p.1 → place_at s p.0 ≡ None
run_begins s from p here l h r =
    let within = r.within in
    ap (λ i. place_at s i) (sym (omega arith))
    ∙ none_from s from p.0 (p.0 - from) h (omega arith) (here (omega arith)) (omega arith)

pub run_place : (s : List (List ℤ)) (p : ℕ × ℕ) (j : ℕ) → IsRun s p.0 p.1 → place_at s p.0 ≡ None → j ≤ p.1
    → place_at s (p.0 + j) ≡ place_behind (j % 313)
run_place s p j r here l = in_run s p.0 p.1 j r.within r.syncs here l

-- the segment that ended a run
pub run_ends : (s : List (List ℤ)) (p : ℕ × ℕ) → IsRun s p.0 p.1 → place_at s p.0 ≡ None → p.0 + p.1 < length s
    → place_at s (p.0 + p.1) ≡ None
run_ends s p r here l = grind (arith, run_place)

pub run_behind : (s : List (List ℤ)) (p : ℕ × ℕ) → IsRun s p.0 p.1 → place_at s p.0 ≡ None → Begins s (p.0 + p.1 + 1)
run_behind s p r here l = elim r.ends [
  | inl e ↦ absurd (omega arith)
  | inr e ↦ copied_on s (p.0 + p.1) e.0 (run_ends s p r here e.0) ∙ ap (λ (b : Bool). cond b (Some 0) None) e.2
]

-- the places in a run
abbrev HasPlaces : List (List ℤ) → (ℕ × ℕ) → Type 0
HasPlaces s p = (j : ℕ) → j < p.1 → place_at s (p.0 + j) ≡ place_behind (j % 313)

places_from : (s : List (List ℤ)) (from : ℕ) (ps : List (ℕ × ℕ)) → AreRuns s from ps → Begins s from
    → All (HasPlaces s) ps
places_from s from [] h here = All-nil (HasPlaces s)
places_from s from (p ∷ ps) h here =
    let first = run_begins s from p here h.0 h.1 h.2 in
    All-cons (HasPlaces s) p ps (λ j l. run_place s p j h.2 first (omega arith))
    (places_from s (p.0 + p.1 + 1) ps h.3 (run_behind s p h.2 first))

pub run_places : (s : List (List ℤ)) (ps : List (ℕ × ℕ)) → AreRuns s 0 ps → All (HasPlaces s) ps
run_places s ps h = places_from s 0 ps h (begins_first s)

-- a segment is outside an interval
abbrev IsOutside : ℕ → (ℕ × ℕ) → Type 0
IsOutside i p = (i < p.0) ⊎ (p.0 + p.1 ≤ i)

outside_from : (s : List (List ℤ)) (from : ℕ) (ps : List (ℕ × ℕ)) (i : ℕ) → AreRuns s from ps → Begins s from
    → from ≤ i → i < length s → ((p : ℕ × ℕ) → Contains ps p → IsOutside i p) → place_at s i ≡ None
outside_from s from [] i h here l m out = ap (λ i. place_at s i) (sym (omega arith))
    ∙ none_from s from (length s) (i - from) h (omega arith) (here (omega arith)) (omega arith)
outside_from s from (p ∷ ps) i h here l m out =
    let first = run_begins s from p here h.0 h.1 h.2 in
    by_place first (out p (0, omega arith, refl))
    (λ k. outside_from s (p.0 + p.1 + 1) ps i h.3 (run_behind s p h.2 first) k m
    (λ q c. out q (suc c.0, omega (arith, c.1), c.2)))
  where
    by_end : place_at s p.0 ≡ None → (p.0 + p.1 ≡ i) ⊎ ((p.0 + p.1 < i) ⊎ (i < p.0 + p.1)) → p.0 + p.1 ≤ i
        → (p.0 + p.1 + 1 ≤ i → place_at s i ≡ None) → place_at s i ≡ None
    by_end first (inl e) k rest = ap (λ i. place_at s i) (sym e) ∙ run_ends s p h.2 first (omega arith)
    by_end first (inr (inl j)) k rest = rest (omega arith)
    by_end first (inr (inr j)) k rest = absurd (omega arith)

    by_place : place_at s p.0 ≡ None → IsOutside i p → (p.0 + p.1 + 1 ≤ i → place_at s i ≡ None) → place_at s i ≡ None
    by_place first (inl k) rest =
        let there : from + (i - from) ≡ i = omega arith in
        let within = h.2.within in
        ap (λ i. place_at s i) (sym there)
        ∙ none_from s from p.0 (i - from) h.1 (omega arith) (here (omega arith)) (omega arith)
    by_place first (inr k) rest = by_end first (cases_order (p.0 + p.1) i) k rest

pub no_place : (s : List (List ℤ)) (ps : List (ℕ × ℕ)) (i : ℕ) → AreRuns s 0 ps → i < length s
    → All (IsOutside i) ps → place_at s i ≡ None
no_place s ps i h l out = grind (arith, outside_from, begins_first, All-contains)

-- ---- the intervals stay

stays_at : (s : List (List ℤ)) (i : ℕ) → i < length s → place_at s i ≡ None → looks_at (soft_symbols s) i ≡ looks_at s i
unfolding next_place
stays_at s i l h = ap looks_like (copied s i l h)

none_stays : (s : List (List ℤ)) (a b : ℕ) → NoneLooks s a b → b ≤ length s → (a ≤ b → place_at s a ≡ None)
    → NoneLooks (soft_symbols s) a b
none_stays s a b h l here i k m =
    let there : a + (i - a) ≡ i = omega arith in
    stays_at s i (omega arith) (rw (← there, none_from s a b (i - a) h l (here (omega arith)) (omega arith))) ∙ h i k m

run_stays : (s : List (List ℤ)) (p : ℕ × ℕ) → IsRun s p.0 p.1 → place_at s p.0 ≡ None → IsRun (soft_symbols s) p.0 p.1
run_stays s p r here = grind (arith, soft_length, stays_at, run_place, run_ends)

runs_stay_from : (s : List (List ℤ)) (from : ℕ) (ps : List (ℕ × ℕ)) → AreRuns s from ps → Begins s from
    → AreRuns (soft_symbols s) from ps
runs_stay_from s from [] h here = λ i k m.
    none_stays s from (length s) h (omega arith) here i k (omega (arith, m, soft_length s))
runs_stay_from s from (p ∷ ps) h here =
    let first = run_begins s from p here h.0 h.1 h.2 in (
      h.0,
      none_stays s from p.0 h.1 (omega (arith, h.2.within)) (λ l. here (omega (arith, h.2.within))),
      run_stays s p h.2 first,
      runs_stay_from s (p.0 + p.1 + 1) ps h.3 (run_behind s p h.2 first),
    )

pub places_stay : (s : List (List ℤ)) (ps : List (ℕ × ℕ)) → AreRuns s 0 ps → AreRuns (soft_symbols s) 0 ps
places_stay s ps h = runs_stay_from s 0 ps h (begins_first s)
