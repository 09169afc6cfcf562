-- The data segments of each field of a capture: those that are acquired, by those that were received.
use Rattle.std.proofs.Common.{◌≡◌, ℕ, ℤ, zero, suc, ◌+◌, ◌-◌, ◌*◌, ◌≤◌, ◌⊎◌, inl, inr, List, [], ◌∷◌, ◌++◌, length, map}
use Rattle.std.proofs.Common.{take, drop, refl, sym, ap, ◌∙◌, arith}
use Rattle.std.specs.List.{flat_map}
use Rattle.std.proofs.Math.Seq.{drop-append-add}
use Rattle.std.proofs.lemmas.List.{append-nil, length-append, length-drop, length-map, length-take-le, map-append}
use Rattle.std.proofs.lemmas.List.{take_all, take_at}
use Rattle.dtx_soft.specs.Softened.{softened}
use Rattle.dtx_soft.proofs.SoftenedLemmas.{softened_found}
use Rattle.dtx_acquire.specs.Acquired.{Field, acquired, all_fields, behind_groups, in_groups, restored, restored_data}
use Rattle.dtx_acquire.specs.Acquired.{restored_field, restored_of, restored_sync}
use Rattle.dtx_acquire.specs.Sent.{groups_behind}
use Rattle.dtx_acquire.proofs.WholeLemmas.{length-field, length-restored}
use Rattle.dtx_rounds.specs.Rounds.{groups_in, heard_of}
use Rattle.dtx_rounds.proofs.RoundLevels.{length-groups}

-- ---- fields

abbrev pub IsAllButLast : Field → List Field → Type 0
IsAllButLast x [] = Unit {0}
IsAllButLast x (y ∷ ys) = (length x.segments ≡ 313) ⊎ (length x.segments ≡ 0)

-- each field has at most 313 segments, and each but the last 313 or none
abbrev pub AreFields : List Field → Type 0
AreFields [] = Unit {0}
AreFields (x ∷ xs) = (length x.segments ≤ 313) × IsAllButLast x xs × AreFields xs

-- what the law of the fields says
pub are_fields : (fields : List Field)
    → ((front : List Field) (field : Field) (back : List Field) → fields ≡ front ++ field ∷ back
    → length field.segments ≤ 313)
    → ((front : List Field) (field next : Field) (back : List Field) → fields ≡ front ++ field ∷ next ∷ back
    → (length field.segments ≡ 313) ⊎ (length field.segments ≡ 0)) → AreFields fields
are_fields [] short all = tt
are_fields (x ∷ xs) short all = (
  short [] x xs refl,
  by_rest xs (λ y ys e. all [] x y ys (ap (λ zs. x ∷ zs) e)),
  are_fields xs (λ front field back e. short (x ∷ front) field back (ap (λ zs. x ∷ zs) e))
      (λ front field next back e. all (x ∷ front) field next back (ap (λ zs. x ∷ zs) e)),
)
  where
    by_rest : (rest : List Field)
        → ((y : Field) (ys : List Field) → rest ≡ y ∷ ys → (length x.segments ≡ 313) ⊎ (length x.segments ≡ 0))
        → IsAllButLast x rest
    by_rest [] h = tt
    by_rest (y ∷ ys) h = h y ys refl

-- ---- groups of the first field and of the next ones

empty : (ys : List (List ℤ)) → length ys ≡ 0 → ys ≡ []
empty [] e = refl
empty (y ∷ ys) e = absurd (omega arith)

-- behind a whole field
pub groups_next : (front rest : List (List ℤ)) (f : ℕ) → length front ≡ 313
    → groups_in (front ++ rest) (f + 1) ≡ groups_in rest f
unfolding groups_behind
groups_next front rest f e = ap (λ n. in_groups (take 312 (drop n (front ++ rest)))) (omega (arith, e))
    ∙ ap (λ xs. in_groups (take 312 xs)) (drop-append-add front rest (313 * f + 1))

groups_past : (segments : List (List ℤ)) (f : ℕ) → length segments ≤ 313 * f + 1 → groups_in segments f ≡ []
groups_past segments f l = empty (groups_in segments f) (length-groups segments f ∙ (grind arith))

-- what follows the first field doesn't matter there
front_only : (rows rest : List (List ℤ)) → (length rows ≡ 312) ⊎ ((length rows ≤ 312) × (rest ≡ []))
    → take 312 (rows ++ rest) ≡ rows
front_only rows rest (inl e) = take_at rows rest 312 e
front_only rows rest (inr h) = rw (h.1, append-nil rows, take_all 312 rows h.0)

pub groups_first : (sync : List ℤ) (rows rest : List (List ℤ))
    → (length rows ≡ 312) ⊎ ((length rows ≤ 312) × (rest ≡ [])) → groups_in ((sync ∷ rows) ++ rest) 0 ≡ in_groups rows
unfolding groups_behind
groups_first sync rows rest h = ap in_groups (front_only rows rest h)

-- ---- restored fields

-- the whole groups of a restored field
groups_restored : (scale : ℕ) (rows : List (List ℤ))
    → in_groups (restored_field scale rows) ≡ map (restored_data scale) (softened scale (in_groups rows))
unfolding in_groups behind_groups restored_field
groups_restored scale rows =
    grind (arith, length-map, length-append, length-drop, map-append, take_at, softened_found, length-take-le)

nothing_softened : (scale : ℕ) → map (restored_data scale) (softened scale []) ≡ []
nothing_softened scale = empty (map (restored_data scale) (softened scale []))
    (length-map (softened scale []) (restored_data scale) ∙ (softened_found scale []).long)

abbrev Heard : List Field → List (List ℤ)
Heard fields = flat_map (λ field. field.segments) fields

-- data segments past the last one
past : (scale f : ℕ) (made heard : List (List ℤ)) → length made ≤ 313 * f + 1 → length heard ≤ 313 * f + 1
    → groups_in made f ≡ map (restored_data scale) (softened scale (groups_in heard f))
past scale f made heard l m = grind (arith, groups_past, nothing_softened)

field_first : (scale : ℕ) (sync : List ℤ) (rows made heard : List (List ℤ))
    → (length rows ≡ 312) ⊎ ((length rows ≤ 312) × (made ≡ []) × (heard ≡ []))
    → groups_in ((restored_sync scale sync ∷ restored_field scale rows) ++ made) 0
    ≡ map (restored_data scale) (softened scale (groups_in ((sync ∷ rows) ++ heard) 0))
field_first scale sync rows made heard h = grind (arith, groups_first, groups_restored, length-field)

-- the data segments in whole groups of each field
groups_of_fields : (scale f : ℕ) (fields : List Field) → AreFields fields
    → groups_in (restored_of scale fields) f ≡ map (restored_data scale) (softened scale (groups_in (Heard fields) f))
unfolding restored_of
groups_of_fields scale f [] h = past scale f [] [] (omega arith) (omega arith)
groups_of_fields scale f (x ∷ xs) h = by_segments x.segments refl (λ g. groups_of_fields scale g xs h.2)
  where
    made : List (List ℤ)
    made = flat_map (λ field. restored scale field.segments) xs

    Rest : Type 0
    Rest = (g : ℕ) → groups_in made g ≡ map (restored_data scale) (softened scale (groups_in (Heard xs) g))

    Same : List (List ℤ) → ℕ → Type 0
    Same segments f = groups_in (restored scale segments ++ made) f
        ≡ map (restored_data scale) (softened scale (groups_in (segments ++ Heard xs) f))

    by_last : (ys : List Field) → xs ≡ ys → (n : ℕ) → length x.segments ≡ suc n → (n ≡ 312) ⊎ ((n ≤ 312) × (xs ≡ []))
    by_last [] e n l = inr (omega (arith, l, h.0), e)
    by_last (y ∷ ys) e n l = grind arith

    by_segments : (segments : List (List ℤ)) → x.segments ≡ segments → Rest → Same segments f
    by_segments [] e rest = rest f
    by_segments (sync ∷ rows) e rest = by_place f (by_last xs refl (length rows) (ap length e))
      where
        by_place : (f : ℕ) → (length rows ≡ 312) ⊎ ((length rows ≤ 312) × (xs ≡ [])) → Same (sync ∷ rows) f
        by_place zero (inl l) = field_first scale sync rows made (Heard xs) (inl l)
        by_place zero (inr l) = field_first scale sync rows made (Heard xs)
            (inr (l.0, ap (flat_map (λ field. restored scale field.segments)) l.1, ap Heard l.1))
        by_place (suc f) (inl l) =
            let next : suc f ≡ f + 1 = omega arith in
            ap (groups_in (restored scale (sync ∷ rows) ++ made)) next
            ∙ groups_next (restored scale (sync ∷ rows)) made f (length-restored scale (sync ∷ rows) ∙ ap suc l)
            ∙ rest f ∙ ap (λ xs. map (restored_data scale) (softened scale xs))
            (sym (ap (groups_in ((sync ∷ rows) ++ Heard xs)) next ∙ groups_next (sync ∷ rows) (Heard xs) f (ap suc l)))
        by_place (suc f) (inr l) =
            let none : length made ≡ 0 = ap (λ ys. length (flat_map (λ field. restored scale field.segments) ys)) l.1 in
            let none_heard : length (Heard xs) ≡ 0 = ap (λ ys. length (Heard ys)) l.1 in
            past scale (suc f) (restored scale (sync ∷ rows) ++ made) ((sync ∷ rows) ++ Heard xs) (omega (
              arith,
              length-append (restored scale (sync ∷ rows)) made,
              none,
              l.0,
              length-restored scale (sync ∷ rows),
            )) (omega (arith, length-append (sync ∷ rows) (Heard xs), none_heard, l.0))

pub acquired_groups : (scale f : ℕ) (symbols : List ℤ) → AreFields (all_fields symbols)
    → groups_in (acquired scale symbols) f ≡ map (restored_data scale) (softened scale (groups_in (heard_of symbols) f))
unfolding acquired heard_of
acquired_groups scale f symbols h = groups_of_fields scale f (all_fields symbols) h
