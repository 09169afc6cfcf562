-- How many segments fields give: each but the last 313 or none.
use Rattle.std.proofs.Common.{◌≡◌, ℕ, ℤ, zero, suc, ◌+◌, ◌-◌, ◌%◌, ◌<◌, ◌≤◌, ◌⊎◌, inl, inr, Bool, true, false, ◌&&◌}
use Rattle.std.proofs.Common.{cond, nat_lt, ◌↔◌, Option, Some, None, option_map, List, [], ◌∷◌, ◌++◌, length, map}
use Rattle.std.proofs.Common.{filter, refl, sym, ap, ◌∙◌, subst, arith}
use Rattle.std.proofs.lemmas.Bool.{lt-ltb}
use Rattle.std.proofs.lemmas.List.{append-nil, length-append}
use Rattle.std.proofs.lemmas.List.Sums.{sum_by-cons}
use Rattle.dtx_acquire.specs.Agreement.{least_from}
use Rattle.dtx_acquire.specs.Acquired.{Field, Sync, acquired, acquired_runs, all_fields, all_syncs, begun, behind}
use Rattle.dtx_acquire.specs.Acquired.{field_at, fields_where, given_at, is_met, restored, restored_of, runs_of}
use Rattle.dtx_acquire.specs.Acquired.{syncs_from}
use Rattle.dtx_acquire.proofs.FieldsLemmas.{fields_of, first_of}
use Rattle.dtx_acquire.specs.Sent.{AreInFields}
use Rattle.dtx_acquire.proofs.SyncsLemmas.{sync_of}
use Rattle.dtx_acquire.proofs.GivenSegments.{restored_given, segments_append}
use Rattle.dtx_acquire.proofs.WholeLemmas.{IsAll, given_met, given_room, length-field_at, length-restored, long_at}

-- ---- a field

behind_met : (v : List ℤ) (p : ℕ) (s : Sync) → behind v p ≡ Some s → is_met v p ≡ true
unfolding behind
behind_met v p s e = grind arith

-- ---- all fields

-- where another field is behind one
abbrev IsWhole : Field → List Field → Type 0
IsWhole x [] = Unit {0}
IsWhole x (y ∷ ys) = IsAll (length x.segments)

abbrev AreGiven : ℕ → List Field → Type 0
AreGiven scale [] = Unit {0}
AreGiven scale (x ∷ xs) = AreInFields (restored scale x.segments) × IsWhole x xs × AreGiven scale xs

field_segments : (scale : ℕ) (v : List ℤ) (s : Sync) → 0 < scale → AreInFields (restored scale (field_at v s).segments)
field_segments scale v s some = grind (arith, restored_given, long_at, given_room, length-field_at)

whole_next : (v : List ℤ) (s : Sync) (n : ℕ) (o : Option Sync) → behind v s.place ≡ o
    → IsWhole (field_at v s) (fields_of (λ met. true) v (syncs_from v n o))
unfolding syncs_from
whole_next v s zero o e = tt
whole_next v s (suc n) None e = tt
whole_next v s (suc n) (Some t) e = grind (arith, length-field_at, given_met, behind_met)

given_from : (scale : ℕ) (v : List ℤ) (n : ℕ) (o : Option Sync) → 0 < scale
    → AreGiven scale (fields_of (λ met. true) v (syncs_from v n o))
unfolding syncs_from
given_from scale v zero o some = tt
given_from scale v (suc n) None some = tt
given_from scale v (suc n) (Some s) some = (
  field_segments scale v s some,
  whole_next v s n (behind v s.place) refl,
  given_from scale v n (behind v s.place) some,
)

all_given : (scale : ℕ) (v : List ℤ) → 0 < scale → AreGiven scale (all_fields v)
unfolding fields_where all_syncs
all_given scale v some = given_from scale v (length v) (first_of true v) some

restored_segments : (scale : ℕ) (fields : List Field) → AreGiven scale fields → AreInFields (restored_of scale fields)
unfolding restored_of
restored_segments scale [] h = grind arith
restored_segments scale (x ∷ []) h = subst AreInFields (sym (append-nil (restored scale x.segments))) h.0
restored_segments scale (x ∷ (y ∷ ys)) h =
    segments_append (restored scale x.segments) (restored_of scale (y ∷ ys)) (by_all h.1) h.0
    (restored_segments scale (y ∷ ys) h.2)
  where
    by_all : IsAll (length x.segments) → length (restored scale x.segments) % 313 ≡ 0
    by_all (inl e) = omega (arith, length-restored scale x.segments, e)
    by_all (inr e) = omega (arith, length-restored scale x.segments, e)

pub acquired_segments : (scale : ℕ) (symbols : List ℤ) → 0 < scale → AreInFields (acquired scale symbols)
unfolding acquired
acquired_segments scale symbols some = restored_segments scale (all_fields symbols) (all_given scale symbols some)

field_before : (scale : ℕ) (fields front : List Field) (x y : Field) (back : List Field) → AreGiven scale fields
    → fields ≡ front ++ x ∷ y ∷ back → IsAll (length x.segments)
field_before scale fields [] x y back h e = (subst (AreGiven scale) e h).1
field_before scale fields (z ∷ front) x y back h e =
    field_before scale (front ++ x ∷ y ∷ back) front x y back (subst (AreGiven scale) e h).2 refl

-- each field but the last
pub field_gives : (symbols : List ℤ) (front : List Field) (field next : Field) (back : List Field)
    → all_fields symbols ≡ front ++ field ∷ next ∷ back → (length field.segments ≡ 313) ⊎ (length field.segments ≡ 0)
field_gives symbols front field next back e = grind (arith, field_before, all_given)

-- ---- no field has more segments than a sync and 312 data segments

abbrev AreShort : List Field → Type 0
AreShort [] = Unit {0}
AreShort (x ∷ xs) = (length x.segments ≤ 313) × AreShort xs

all_short : (v : List ℤ) → AreShort (all_fields v)
unfolding fields_where
all_short v = short (filter (λ s. true) (all_syncs true v))
  where
    short : (syncs : List Sync) → AreShort (map (field_at v) syncs)
    short [] = tt
    short (s ∷ syncs) = (omega (arith, (given_room v s.place).few, length-field_at v s), short syncs)

short_at : (fields front : List Field) (x : Field) (back : List Field) → AreShort fields
    → fields ≡ front ++ x ∷ back → length x.segments ≤ 313
short_at fields [] x back h e = (subst AreShort e h).0
short_at fields (z ∷ front) x back h e = short_at (front ++ x ∷ back) front x back (subst AreShort e h).1 refl

pub field_short : (symbols : List ℤ) (front : List Field) (field : Field) (back : List Field)
    → all_fields symbols ≡ front ++ field ∷ back → length field.segments ≤ 313
field_short symbols front field back e = short_at (all_fields symbols) front field back (all_short symbols) e

-- ---- no run

abbrev GiveNone : List Field → Type 0
GiveNone [] = Unit {0}
GiveNone (x ∷ xs) = (length x.segments ≡ 0) × GiveNone xs

-- a run begins behind a field that gives nothing
behind_none : (v : List ℤ) (p : ℕ) (s : Sync) → behind v p ≡ Some s → given_at v p ≡ 0 → s.begins ≡ true
unfolding behind given_at
behind_none v p s e z = grind arith

runs-cons : (x : Field) (xs : List Field) → runs_of (x ∷ xs) ≡ begun x + runs_of xs
unfolding runs_of
runs-cons x xs = sum_by-cons (λ n. n) (begun x) (map begun xs)

not_begun : (x : Field) → x.begins ≡ true → begun x ≡ 0 → length x.segments ≡ 0
not_begun x b z = grind (arith, lt-ltb)

none_from : (v : List ℤ) (n : ℕ) (s : Sync) → s.begins ≡ true
    → runs_of (fields_of (λ met. true) v (syncs_from v n (Some s))) ≡ 0
    → GiveNone (fields_of (λ met. true) v (syncs_from v n (Some s)))
unfolding syncs_from field_at
none_from v zero s b z = tt
none_from v (suc n) s b z =
    let all = runs-cons (field_at v s) (fields_of (λ met. true) v (syncs_from v n (behind v s.place))) in
    let none = not_begun (field_at v s) b (omega arith) in (
      none,
      by_next n (behind v s.place) refl (sym (length-field_at v s) ∙ none) (omega arith) (λ t c y. none_from v n t c y),
    )
  where
    by_next : (n : ℕ) (o : Option Sync) → behind v s.place ≡ o → given_at v s.place ≡ 0
        → runs_of (fields_of (λ met. true) v (syncs_from v n o)) ≡ 0
        → ((t : Sync) → t.begins ≡ true → runs_of (fields_of (λ met. true) v (syncs_from v n (Some t))) ≡ 0
        → GiveNone (fields_of (λ met. true) v (syncs_from v n (Some t))))
        → GiveNone (fields_of (λ met. true) v (syncs_from v n o))
    by_next zero o e g y on = tt
    by_next (suc n) None e g y on = tt
    by_next (suc n) (Some t) e g y on = on t (behind_none v s.place t e g) y

all_none : (v : List ℤ) → runs_of (all_fields v) ≡ 0 → GiveNone (all_fields v)
unfolding fields_where all_syncs syncs_from
all_none v z = by_first (length v) (least_from v 0) z
  where
    by_first : (n : ℕ) (o : Option ℕ)
        → runs_of (fields_of (λ met. true) v (syncs_from v n (option_map (sync_of true) o))) ≡ 0
        → GiveNone (fields_of (λ met. true) v (syncs_from v n (option_map (sync_of true) o)))
    by_first zero o z = tt
    by_first (suc n) None z = tt
    by_first (suc n) (Some r) z = none_from v (suc n) (sync_of true r) refl z

none_restored : (scale : ℕ) (fields : List Field) → GiveNone fields → restored_of scale fields ≡ []
unfolding restored_of
none_restored scale [] h = refl
none_restored scale (x ∷ xs) h =
    rw (empty (restored scale x.segments) (length-restored scale x.segments ∙ h.0), none_restored scale xs h.1)
  where
    empty : (ys : List (List ℤ)) → length ys ≡ 0 → ys ≡ []
    empty [] e = refl
    empty (y ∷ ys) e = absurd (omega arith)

no_runs : runs_of [] ≡ 0
unfolding runs_of
no_runs = refl

restored_none : (scale : ℕ) (fields : List Field) → length (restored_of scale fields) ≡ 0 → runs_of fields ≡ 0
unfolding restored_of
restored_none scale [] e = no_runs
restored_none scale (x ∷ xs) e =
    let both = length-append (restored scale x.segments) (restored_of scale xs) in
    let rest = restored_none scale xs (omega (arith, both, e)) in
    let all = runs-cons x xs in
    let none = unbegun x (omega (arith, both, e, length-restored scale x.segments)) in
    omega (arith, rest, all, none)
  where
    by_begins : (b : Bool) → ◌≡◌ {A = ℕ} (cond (b && false) 1 0) 0
    by_begins true = refl
    by_begins false = refl

    unbegun : (x : Field) → length x.segments ≡ 0 → begun x ≡ 0
    unbegun x z = ap (λ k. cond (x.begins && nat_lt 0 k) 1 0) z ∙ by_begins x.begins

-- where there is no run there is no segment
pub none_without_a_run : (scale : ℕ) (symbols : List ℤ) → (acquired_runs symbols ≡ 0) ↔ (acquired scale symbols ≡ [])
unfolding acquired acquired_runs
none_without_a_run scale symbols = (
  λ z. none_restored scale (all_fields symbols) (all_none symbols z),
  λ e. restored_none scale (all_fields symbols) (ap length e),
)
