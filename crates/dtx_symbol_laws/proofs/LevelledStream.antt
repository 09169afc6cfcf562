-- A stream that stands at a gain and with a constant: it is levelled, and then its segments are acquired.
use Rattle.std.proofs.Common.{◌≡◌, ℕ, ℤ, pos, zero, suc, ◌+◌, ◌*◌, ◌/◌, ◌%◌, ◌<◌, ◌≤◌, ◌-ℤ◌, ◌*ℤ◌, ◌==◌, ◌↔◌, nat_abs}
use Rattle.std.proofs.Common.{nat_le, List, [], ◌++◌, length, map, replicate, get_or, refl, sym, ap, ◌∙◌, subst, arith}
use Rattle.std.proofs.lemmas.Int.{ints}
use Rattle.std.proofs.lemmas.List.{get_or-map, length-map}
use Rattle.dtx_lists.proofs.Range.{map-range_same}
use Rattle.dtx_coder.proofs.CountsLemmas.{length-a53, length-a53_symbols}
use Rattle.dtx_coder.specs.Stream.{a53, a53_symbols, last_before}
use Rattle.dtx_chain.proofs.PlacesLemmas.{sync_at}
use Rattle.dtx_acquire.specs.Acquired as acquired
use Rattle.dtx_acquire.specs.Agreement.{is_second}
use Rattle.dtx_acquire.specs.Sent.{AreInFields, AreNear}
use Rattle.dtx_acquire.proofs.SentLemmas.{all_symbols, second_sent}
use Rattle.dtx_level.specs.declared.measure.Measure.{Measure}
use Rattle.dtx_level.specs.Syncs.{all_syncs}
use Rattle.dtx_level.specs.Levelled.{levelled, where_some}
use Rattle.dtx_level.specs.Measures.{IsLater, later_by}
use Rattle.dtx_level.specs.Standing.{AreLevelled, eightfold, exact_measure, standing, standing_measure}
use Rattle.dtx_level.specs.Standing.{standing_measures}
use Rattle.dtx_symbol_laws.specs.LevelledStream.{field_measure, fields_begun, stream_measures}
use Rattle.dtx_symbol_laws.proofs.AcquiredStream.{fields_sent}

-- ---- fields

-- every second field is a second one
is_odd : (f n : ℕ) → f % 2 ≡ n → nat_le 312 (4 * (78 * f) % 624) ≡ (f % 2 == 1)
is_odd f zero e = grind arith
is_odd f (suc zero) e =
    let second : 4 * (78 * f) % 624 ≡ 312 = omega (arith, e) in
    ap (λ k. nat_le 312 k) second ∙ sym (ap (λ k. k == 1) e)
is_odd f (suc (suc n)) e = absurd (omega (arith, e))

second_at : (ps : List (List ℕ)) (f : ℕ) → f < fields_begun ps → is_second (get_or (a53 ps) (313 * f) []) ≡ (f % 2 == 1)
second_at ps f l = ap (λ n. is_second (get_or (a53 ps) n [])) (omega arith)
    ∙ ap is_second (sync_at ps (78 * f) (omega arith) (omega arith))
    ∙ second_sent (nat_le 312 (4 * (78 * f) % 624)) (last_before ps (78 * f)) ∙ is_odd f (f % 2) refl

begun_same : (ps : List (List ℕ)) → (length (a53 ps) + 312) / 313 ≡ fields_begun ps
begun_same ps = omega (arith, length-a53 ps)

measured : (gain constant : ℤ) (ps : List (List ℕ)) (f : ℕ) → f < fields_begun ps
    → standing_measure gain constant (a53 ps) f ≡ field_measure gain constant f
unfolding standing_measure field_measure
measured gain constant ps f l = ap (exact_measure gain constant (260416 * f)) (second_at ps f l)

all_measured : (gain constant : ℤ) (ps : List (List ℕ))
    → standing_measures gain constant (a53 ps) ≡ stream_measures gain constant ps
unfolding standing_measures stream_measures
all_measured gain constant ps = grind (arith, begun_same, map-range_same, measured)

-- which places these are
pub begun_below : (ps : List (List ℕ)) (f : ℕ) → (f < fields_begun ps) ↔ (260416 * f < length (a53_symbols ps))
begun_below ps f = grind (arith, length-a53_symbols, length-a53)

pub whole_sync : (ps : List (List ℕ)) (f : ℕ) → f < fields_begun ps → 260416 * f + 832 ≤ length (a53_symbols ps)
whole_sync ps f l = omega (arith, l, length-a53_symbols ps, length-a53 ps)

-- ---- levelled

-- that whole fields are levelled
abbrev pub LevelsFields : Type 0
LevelsFields = (gain constant : ℤ) (sent : List (List ℤ)) → nat_abs constant < 5 * nat_abs gain → AreInFields sent
    → AreLevelled (standing gain constant (all_symbols sent)) (eightfold (all_symbols sent))
    (standing_measures gain constant sent)

pub stream_levelled : LevelsFields → (gain constant : ℤ) (ps : List (List ℕ)) → nat_abs constant < 5 * nat_abs gain
    → AreLevelled (standing gain constant (a53_symbols ps)) (eightfold (a53_symbols ps))
    (stream_measures gain constant ps)
unfolding a53_symbols
stream_levelled levels gain constant ps some =
    subst (AreLevelled (standing gain constant (all_symbols (a53 ps))) (eightfold (all_symbols (a53 ps))))
    (all_measured gain constant ps) (levels gain constant (a53 ps) some (fields_sent ps))

-- ---- acquired

near_itself : (x : ℤ) → nat_abs (pos 8 *ℤ x -ℤ (pos 8 *ℤ x)) < 8
near_itself x = omega (arith, ints)

eightfold_near : (xs : List ℤ) → AreNear 8 xs (eightfold xs)
unfolding eightfold
eightfold_near xs = grind (arith, length-map, get_or-map, near_itself)

-- that a stream's segments are acquired of symbols near its own, behind zeros
abbrev pub AcquiresNear : Type 0
AcquiresNear = (scale zeros : ℕ) (ps : List (List ℕ)) (symbols : List ℤ) → 0 < scale
    → AreNear scale (a53_symbols ps) symbols → acquired.acquired scale (replicate zeros (pos 0) ++ symbols) ≡ a53 ps

pub levelled_acquired : AcquiresNear → (zeros : ℕ) (ps : List (List ℕ)) (symbols : List ℤ) (told : List Measure)
    → AreLevelled symbols (replicate zeros (pos 0) ++ eightfold (a53_symbols ps)) told
    → acquired.acquired 8 (levelled symbols) ≡ a53 ps
levelled_acquired acquires zeros ps symbols told h = grind (arith, eightfold_near)

-- ---- behind a front

some_syncs : (symbols out xs : List ℤ) → levelled symbols ≡ out → 0 < length out
    → where_some (all_syncs symbols) xs ≡ xs
unfolding levelled
some_syncs symbols out xs e l = grind arith

pub front_levelled : (front symbols out : List ℤ) (told : List Measure) → IsLater front symbols
    → AreLevelled symbols out told → 0 < length out
    → AreLevelled (front ++ symbols) (replicate (length front) (pos 0) ++ out) (map (later_by (length front)) told)
front_levelled front symbols out told later h l = grind (arith, some_syncs)

pub length-eightfold : (xs : List ℤ) → length (eightfold xs) ≡ length xs
unfolding eightfold
length-eightfold xs = length-map xs (λ s. pos 8 *ℤ s)

pub some_symbols : (ps : List (List ℕ)) → 4 ≤ length ps → 0 < length (eightfold (a53_symbols ps))
some_symbols ps l = omega (arith, l, length-eightfold (a53_symbols ps), length-a53_symbols ps, length-a53 ps)
