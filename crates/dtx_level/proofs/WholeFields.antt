-- Whole fields that stand at a gain and with a constant: their syncs, and what their symbols become.
use Rattle.std.proofs.Common.{◌≡◌, ℕ, ℤ, pos, negsuc, zero, suc, ◌+◌, ◌-◌, ◌*◌, ◌/◌, ◌%◌, ◌<◌, ◌≤◌, ◌+ℤ◌, ◌*ℤ◌, nat_abs}
use Rattle.std.proofs.Common.{true, false, cond, eqb, Some, None, List, [], ◌∷◌, ◌++◌, length, map, take, drop, get_or}
use Rattle.std.proofs.Common.{refl, sym, ap, ap₂, ◌∙◌, subst, arith}
use Rattle.std.specs.List.{range_with_len}
use Rattle.std.proofs.lemmas.Bool.{cond-true, cond-false, le-leb, lt-leb}
use Rattle.std.proofs.lemmas.List.{drop-drop, drop-map, get_or-map, length-map, map-append, take-append-drop, take-map}
use Rattle.dtx_frame.specs.Segments.{sync_symbols}
use Rattle.dtx_acquire.specs.Acquired.{is_met}
use Rattle.dtx_acquire.specs.Agreement.{is_second, sync_sign}
use Rattle.dtx_acquire.specs.Sent.{AreInFields}
use Rattle.dtx_acquire.proofs.SentLemmas.{all_symbols, front_five, length_sent, row_long, row_small, segment_there}
use Rattle.dtx_acquire.proofs.SentLemmas.{sent_front, symbol_there, symbols_small}
use Rattle.dtx_acquire.proofs.PlacesLemmas.{least_here}
use Rattle.dtx_level.specs.declared.measure.Measure.{Measure}
use Rattle.dtx_level.specs.Shown.{shows}
use Rattle.dtx_level.proofs.Shows.{past_end}
use Rattle.dtx_level.specs.Syncs.{all_syncs, behind, slips, slips_behind, syncs_from, syncs_where}
use Rattle.dtx_level.specs.Levelled.{By, by_sync, level, levelled, levelled_behind, nothing, stretches, where_some}
use Rattle.dtx_level.specs.Measures.{constant_in_hundredths, gain_in_hundredths, levelled_sync, measure_at}
use Rattle.dtx_level.specs.Measures.{measures_where}
use Rattle.dtx_level.specs.Standing.{AreLevelled, eightfold, exact_measure, standing, standing_measure}
use Rattle.dtx_level.specs.Standing.{standing_measures}
use Rattle.dtx_level.proofs.Ending.{all_wanted, few_none}
use Rattle.dtx_level.proofs.Gains.{constant_undone, gain_undone}
use Rattle.dtx_level.proofs.MeasuresBehind.{measured}
use Rattle.dtx_level.proofs.Standing.{IsSyncAt, by_at, by_gain, noise_eight, second_eight, shows_at, standing_undone}

-- ---- syncs a field apart

-- the place of a field
abbrev pub field_place : ℕ → ℕ
field_place f = 260416 * f

ended : (v : List ℤ) (n : ℕ) → syncs_from v n None ≡ []
unfolding syncs_from
ended v zero = refl
ended v (suc n) = refl

places_from : (v : List ℤ) (n k f : ℕ) → k < n
    → ((j : ℕ) → f < j → j ≤ f + k → (field_place j + 832 ≤ length v) × (shows v (field_place j) ≡ true))
    → length v < field_place (f + k + 1) + 832
    → syncs_from v n (Some (field_place f)) ≡ map field_place (range_with_len f (suc k))
unfolding syncs_from behind is_met
places_from v zero k f l each ends = absurd (omega arith)
places_from v (suc n) zero f l each ends = ap (λ xs. field_place f ∷ xs) (ap (syncs_from v n)
    (cond-false (is_met v (field_place f)) _ None
    (lt-leb (field_place f + 260416 + 832) (length v) (omega arith))) ∙ ended v n)
places_from v (suc n) (suc k) f l each ends =
    let is = each (f + 1) (omega arith) (omega arith) in
    ap (λ xs. field_place f ∷ xs) (ap (syncs_from v n) (grind (arith, cond-true, le-leb))
    ∙ places_from v n k (f + 1) (omega arith) (λ j a b. each j (omega arith) (omega arith)) (omega (arith, ends)))

-- a sync that stands so begins each of so many fields, and no more are begun
pub record AreSyncsAt (a b : ℤ) (v : List ℤ) (count : ℕ) : Type 0 where
  pub each : (f : ℕ) → f < count → IsSyncAt a b v (field_place f)
  pub ends : length v < field_place count + 832

all_places : (a b : ℤ) (v : List ℤ) (count : ℕ) → nat_abs b < 5 * nat_abs a → AreSyncsAt a b v count
    → all_syncs v ≡ map field_place (range_with_len 0 count)
unfolding all_syncs
all_places a b v zero l h = few_none v (omega (arith, h.ends))
all_places a b v (suc k) l h =
    let first = h.each 0 (omega arith) in
    ap (syncs_from v (length v)) (least_here shows past_end v 0 (shows_at a b v 0 l first))
    ∙ places_from v (length v) k 0 (omega (arith, (h.each k (omega arith)).room))
    (λ j m n. (let is = h.each j (omega arith) in (is.room, shows_at a b v (field_place j) l is)))
    (omega (arith, h.ends))

slips_none : (k f : ℕ) → slips_behind (Some (field_place f)) (map field_place (range_with_len (f + 1) k)) ≡ 0
unfolding slips_behind
slips_none zero f = refl
slips_none (suc k) f =
    let far : field_place (f + 1) - field_place f ≡ 260416 = omega arith in
    ap₂ (λ x y. x + y) (ap (λ n. cond (eqb (n % 260416) 0) 0 1) far) (slips_none k (f + 1))

no_slips : (count : ℕ) → slips (map field_place (range_with_len 0 count)) ≡ 0
unfolding slips_behind
no_slips zero = refl
no_slips (suc k) = ap (λ n. 0 + n) (slips_none k 0)

-- ---- by one gain

stretched : (by : By) (v : List ℤ) (k f from : ℕ) → from ≤ field_place f
    → ((j : ℕ) → f ≤ j → j < f + k → by_sync v (field_place j) ≡ by)
    → stretches by v from (map field_place (range_with_len f k)) ≡ map (level by) (drop from v)
unfolding stretches
stretched by v zero f from l h = refl
stretched by v (suc k) f from l h =
    let n = field_place f - from in
    let there : from + n ≡ field_place f = omega arith in
    ap (λ (x : By). map (level by) (take n (drop from v))
    ++ stretches x v (field_place f) (map field_place (range_with_len (f + 1) k))) (h f (omega arith) (omega arith))
    ∙ ap (λ xs. map (level by) (take n (drop from v)) ++ xs)
    (stretched by v k (f + 1) (field_place f) (omega arith) (λ j a b. h j (omega arith) (omega arith))
    ∙ ap (λ i. map (level by) (drop i v)) (sym there) ∙ ap (map (level by)) (sym (drop-drop n from v)))
    ∙ sym (map-append (level by) (take n (drop from v)) (drop n (drop from v)))
    ∙ ap (map (level by)) (take-append-drop n (drop from v))

levelled_by : (a b : ℤ) (v : List ℤ) (k : ℕ) → nat_abs b < 5 * nat_abs a → AreSyncsAt a b v (suc k)
    → levelled v ≡ map (level (by_gain a b)) v
unfolding levelled levelled_behind stretches
levelled_by a b v k l h =
    ap (λ (places : List ℕ). where_some places (stretches nothing v 0 places)) (all_places a b v (suc k) l h)
    ∙ ap (λ (x : By). stretches x v 0 (map field_place (range_with_len 1 k))) (by_at a b v 0 (h.each 0 (omega arith)))
    ∙ stretched (by_gain a b) v k 1 0 (omega arith) (λ j m n. by_at a b v (field_place j) (h.each j (omega arith)))

-- ---- how each sync is told

told_at : (a b : ℤ) (v : List ℤ) (place : ℕ) (segment : List ℤ) → IsSyncAt a b v place
    → levelled_sync v place ≡ eightfold segment → length segment ≡ 832
    → ((i : ℕ) → i < 515 → get_or segment i (pos 0) ≡ get_or (sync_symbols false) i (pos 0))
    → measure_at v place ≡ exact_measure a b place (is_second segment)
unfolding measure_at
told_at a b v place segment h is long front = ap₂ (measured place) (by_at a b v place h) is
    ∙ ap₂ (λ s n. record {
      place = place;
      second = s;
      gain = gain_in_hundredths (pos 663060 *ℤ a);
      constant = constant_in_hundredths (pos 132612 *ℤ b);
      noise = n;
    }) (second_eight segment long) (noise_eight segment long front)
    ∙ ap₂ (λ g o. record { place = place; second = is_second segment; gain = g; constant = o; noise = 0 })
    (gain_undone a) (constant_undone b)

told_from : (v : List ℤ) (m : ℕ → Measure) (k f : ℕ)
    → ((j : ℕ) → f ≤ j → j < f + k → measure_at v (field_place j) ≡ m j)
    → map (measure_at v) (map field_place (range_with_len f k)) ≡ map m (range_with_len f k)
told_from v m zero f h = refl
told_from v m (suc k) f h =
    ap₂ ◌∷◌ (h f (omega arith) (omega arith)) (told_from v m k (f + 1) (λ j a b. h j (omega arith) (omega arith)))

-- ---- segments as they are sent

-- how many fields are begun
abbrev pub begun : List (List ℤ) → ℕ
begun sent = (length sent + 312) / 313

begins : (sent : List (List ℤ)) (f : ℕ) → f < begun sent → 313 * f < length sent
begins sent f l = omega arith

field_segment : (f : ℕ) → 832 * (313 * f) ≡ field_place f
field_segment f = omega arith

begins_field : (f : ℕ) → 313 * f % 313 ≡ 0
begins_field f = omega arith

length-standing : (a b : ℤ) (xs : List ℤ) → length (standing a b xs) ≡ length xs
unfolding standing
length-standing a b xs = length-map xs (λ s. a *ℤ s +ℤ b)

standing_at : (a b : ℤ) (xs : List ℤ) (k : ℕ) (s : ℤ) → k < length xs → get_or xs k (pos 0) ≡ s
    → get_or (standing a b xs) k (pos 0) ≡ a *ℤ s +ℤ b
unfolding standing
standing_at a b xs k s l e = get_or-map (λ s. a *ℤ s +ℤ b) xs k (pos 0) (pos 0) l ∙ ap (λ s. a *ℤ s +ℤ b) e

sync_stands : (a b : ℤ) (sent : List (List ℤ)) (f : ℕ) → AreInFields sent → 313 * f < length sent
    → IsSyncAt a b (standing a b (all_symbols sent)) (field_place f)
sync_stands a b sent f h l = record {
  room = omega (arith, l, length_sent sent h, length-standing a b (all_symbols sent));
  front = λ i m.
      standing_at a b (all_symbols sent) (field_place f + i) (cond (sync_sign i) (pos 5) (negsuc 4))
      (omega (arith, l, m, length_sent sent h))
      (ap (λ p. get_or (all_symbols sent) (p + i) (pos 0)) (sym (field_segment f))
      ∙ symbol_there sent h (313 * f) i l (omega arith)
      ∙ sent_front (get_or sent (313 * f) []) (h.syncs (313 * f) l (begins_field f)) i m
      ∙ front_five i (omega arith));
}

sync_levelled : (a b : ℤ) (sent : List (List ℤ)) (f : ℕ) → nat_abs b < 5 * nat_abs a → AreInFields sent
    → 313 * f < length sent
    → levelled_sync (standing a b (all_symbols sent)) (field_place f) ≡ eightfold (get_or sent (313 * f) [])
unfolding levelled_sync standing
sync_levelled a b sent f some h l = ap₂ (λ (by : By) (xs : List ℤ). map (level by) xs)
    (by_at a b (standing a b (all_symbols sent)) (field_place f) (sync_stands a b sent f h l))
    ((ap (take 832) (drop-map (λ s. a *ℤ s +ℤ b) (field_place f) (all_symbols sent))
    ∙ take-map (λ s. a *ℤ s +ℤ b) 832 (drop (field_place f) (all_symbols sent)))
    ∙ ap (standing a b) (ap (λ p. take 832 (drop p (all_symbols sent))) (sym (field_segment f))
    ∙ segment_there sent h (313 * f) l)) ∙ standing_undone a b (get_or sent (313 * f) []) some
    (λ k m. row_small sent h (313 * f) k l (omega (arith, m, row_long sent h (313 * f) l)))

syncs_stand : (a b : ℤ) (sent : List (List ℤ)) → AreInFields sent
    → AreSyncsAt a b (standing a b (all_symbols sent)) (begun sent)
syncs_stand a b sent h = record {
  each = λ f l. sync_stands a b sent f h (begins sent f l);
  ends = omega (arith, length_sent sent h, length-standing a b (all_symbols sent));
}

told_sent : (a b : ℤ) (sent : List (List ℤ)) (f : ℕ) → nat_abs b < 5 * nat_abs a → AreInFields sent
    → f < begun sent → measure_at (standing a b (all_symbols sent)) (field_place f) ≡ standing_measure a b sent f
unfolding standing_measure
told_sent a b sent f some h l =
    let m = begins sent f l in
    told_at a b (standing a b (all_symbols sent)) (field_place f) (get_or sent (313 * f) [])
    (sync_stands a b sent f h m) (sync_levelled a b sent f some h m) (row_long sent h (313 * f) m)
    (sent_front (get_or sent (313 * f) []) (h.syncs (313 * f) m (begins_field f)))

all_told : (a b : ℤ) (sent : List (List ℤ)) → nat_abs b < 5 * nat_abs a → AreInFields sent
    → measures_where (λ met. true) (standing a b (all_symbols sent)) ≡ standing_measures a b sent
unfolding measures_where syncs_where standing_measures
all_told a b sent some h = ap (map (measure_at (standing a b (all_symbols sent))))
    (all_wanted (λ p. true) (all_syncs (standing a b (all_symbols sent)))
    ∙ all_places a b (standing a b (all_symbols sent)) (begun sent) some (syncs_stand a b sent h))
    ∙ told_from (standing a b (all_symbols sent)) (standing_measure a b sent) (begun sent) 0
    (λ f l m. told_sent a b sent f some h (omega arith))

none_undone : (a b : ℤ) (xs : List ℤ) → length xs ≡ 0 → levelled (standing a b xs) ≡ eightfold xs
unfolding levelled standing eightfold
none_undone a b [] e =
    ap (λ (places : List ℕ). where_some places (levelled_behind nothing [])) (few_none [] (omega arith))
none_undone a b (x ∷ xs) e = absurd (omega arith)

all_undone : (a b : ℤ) (sent : List (List ℤ)) → nat_abs b < 5 * nat_abs a → AreInFields sent
    → levelled (standing a b (all_symbols sent)) ≡ eightfold (all_symbols sent)
all_undone a b sent some h = by_count sent h (begun sent) refl
  where
    by_count : (sent : List (List ℤ)) → AreInFields sent → (n : ℕ) → begun sent ≡ n
        → levelled (standing a b (all_symbols sent)) ≡ eightfold (all_symbols sent)
    by_count sent h zero e = none_undone a b (all_symbols sent) (omega (arith, e, length_sent sent h))
    by_count sent h (suc k) e = levelled_by a b (standing a b (all_symbols sent)) k some
        (subst (AreSyncsAt a b (standing a b (all_symbols sent))) e (syncs_stand a b sent h))
        ∙ standing_undone a b (all_symbols sent) some (symbols_small sent h)

pub whole_fields : (a b : ℤ) (sent : List (List ℤ)) → nat_abs b < 5 * nat_abs a → AreInFields sent
    → AreLevelled (standing a b (all_symbols sent)) (eightfold (all_symbols sent)) (standing_measures a b sent)
whole_fields a b sent some h = record {
  levelled_is = all_undone a b sent some h;
  measures_are = all_told a b sent some h;
  no_slip = ap slips (all_places a b (standing a b (all_symbols sent)) (begun sent) some (syncs_stand a b sent h))
      ∙ no_slips (begun sent);
}
