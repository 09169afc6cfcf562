-- How syncs stand of symbols behind others.
use Rattle.std.proofs.Common.{◌≡◌, ℕ, ℤ, ◌+◌, ◌<◌, ◌≤◌, Bool, true, false, option_map, List, [], ◌∷◌, ◌++◌, length, map}
use Rattle.std.proofs.Common.{take, drop, refl, ap₂, arith}
use Rattle.std.proofs.Math.Seq.{drop-append-add}
use Rattle.std.proofs.lemmas.List.{drop-append-le, length-drop, map-append, take-append-le, take-map, take-take}
use Rattle.dtx_acquire.specs.Agreement.{is_second}
use Rattle.dtx_acquire.specs.Acquired.{is_met}
use Rattle.dtx_level.specs.declared.measure.Measure.{Measure}
use Rattle.dtx_level.specs.Shown.{least_shown, shows}
use Rattle.dtx_level.specs.Syncs.{all_syncs, behind, syncs_where}
use Rattle.dtx_level.specs.Levelled.{By, by_sync, level}
use Rattle.dtx_level.specs.Measures.{constant_in_hundredths, gain_in_hundredths, later_by, levelled_sync, measure_at}
use Rattle.dtx_level.specs.Measures.{measures_where, noise}
use Rattle.dtx_level.specs.Leveller.{where_wanted}
use Rattle.dtx_level.proofs.Shows.{constant_behind, constant_front, gain_behind, gain_front}
use Rattle.dtx_level.proofs.SyncsBehind.{places_where, where_next, where_skip, unmet, all_last}

-- ---- one sync

pub by_behind : (front v : List ℤ) (t : ℕ) → by_sync (front ++ v) (length front + t) ≡ by_sync v t
by_behind front v t = grind (arith, gain_behind, constant_behind)

pub by_front : (h more : List ℤ) (t : ℕ) → t + 515 ≤ length h → by_sync (h ++ more) t ≡ by_sync h t
by_front h more t l = grind (arith, gain_front, constant_front)

sync_front : (h more : List ℤ) (t : ℕ) → t + 832 ≤ length h → levelled_sync (h ++ more) t ≡ levelled_sync h t
unfolding levelled_sync
sync_front h more t l = ap₂ (λ (by : By) (xs : List ℤ). map (level by) xs) (by_front h more t (omega arith))
    (rw (drop-append-le t h more (omega arith), take-append-le 832 (drop t h) more (omega (arith, length-drop t h))))

-- how a sync stands by what it is levelled, and so levelled
abbrev pub measured : ℕ → By → List ℤ → Measure
measured place by segment = record {
  place = place;
  second = is_second segment;
  gain = gain_in_hundredths by.gain;
  constant = constant_in_hundredths by.constant;
  noise = noise segment 515;
}

-- a measure by its fields
pub measure_is : (m : Measure) (place : ℕ) (by : By) (segment : List ℤ) → m.place ≡ place
    → m.second ≡ is_second segment → m.gain ≡ gain_in_hundredths by.gain
    → m.constant ≡ constant_in_hundredths by.constant → m.noise ≡ noise segment 515 → m ≡ measured place by segment
measure_is m place by segment p s g o n = grind arith

-- the first of some symbols, levelled by a sync in front
pub front_levelled : (held : List ℤ) (count : ℕ) → 832 ≤ count
    → take 832 (map (level (by_sync held 0)) (take count held)) ≡ levelled_sync held 0
unfolding levelled_sync
front_levelled held count l = rw (take-map (level (by_sync held 0)) 832 (take count held), take-take 832 count held l)

pub later_measured : (held : List ℤ) (k : ℕ)
    → later_by k (measure_at held 0) ≡ measured (k + 0) (by_sync held 0) (levelled_sync held 0)
unfolding measure_at
later_measured held k = refl

pub measure_front : (h more : List ℤ) (t : ℕ) → t + 832 ≤ length h → measure_at (h ++ more) t ≡ measure_at h t
unfolding measure_at
measure_front h more t l = ap₂ (measured t) (by_front h more t (omega arith)) (sync_front h more t l)

-- ---- all

mapped : (front v : List ℤ) (places : List ℕ) → map (measure_at (front ++ v)) (map (λ i. length front + i) places)
    ≡ map (later_by (length front)) (map (measure_at v) places)
unfolding measure_at levelled_sync
mapped front v [] = refl
mapped front v (p ∷ places) = ap₂ ◌∷◌ (grind (arith, by_behind, drop-append-add)) (mapped front v places)

pub measures_skip : (wanted : Bool → Bool) (front v : List ℤ)
    → ((p : ℕ) → p < length front → shows (front ++ v) p ≡ false)
    → measures_where wanted (front ++ v) ≡ map (later_by (length front)) (measures_where wanted v)
unfolding measures_where
measures_skip wanted front v h = grind (arith, where_skip, mapped)

one_where : (b : Bool) (f : ℕ → Measure) → map f (places_where b (0 ∷ [])) ≡ where_wanted b (f 0 ∷ [])
one_where true f = refl
one_where false f = refl

pub measures_next : (wanted : Bool → Bool) (front v : List ℤ) → shows (front ++ v) 0 ≡ true
    → is_met (front ++ v) 0 ≡ true → 0 < length front
    → behind (front ++ v) 0 ≡ option_map (λ i. length front + i) (least_shown v 0) → measures_where wanted (front ++ v)
    ≡ where_wanted (wanted true) (measure_at (front ++ v) 0 ∷ [])
    ++ map (later_by (length front)) (measures_where wanted v)
unfolding measures_where
measures_next wanted front v h met some e = grind (arith, where_next, map-append, places_where, one_where, mapped)

pub measures_last : (wanted : Bool → Bool) (v : List ℤ) → length v < 261248 → shows v 0 ≡ true
    → measures_where wanted v ≡ where_wanted (wanted false) (measure_at v 0 ∷ [])
unfolding measures_where syncs_where
measures_last wanted v l h = grind (arith, all_last, unmet, one_where)

pub measures_none : (wanted : Bool → Bool) (v : List ℤ) → all_syncs v ≡ [] → measures_where wanted v ≡ []
unfolding measures_where syncs_where
measures_none wanted v e = grind arith
