-- What symbols become that stand behind others.
use Rattle.std.proofs.Common.{◌≡◌, ℕ, ℤ, ◌+◌, ◌-◌, ◌<◌, false, List, [], ◌∷◌, ◌++◌, length, map, take, append_assoc, ap}
use Rattle.std.proofs.Common.{ap₂, ◌∙◌, arith}
use Rattle.std.proofs.Math.Seq.{drop-append-add, take-append-add}
use Rattle.std.proofs.lemmas.List.{map-append}
use Rattle.dtx_level.specs.Shown.{shows}
use Rattle.dtx_level.specs.Syncs.{all_syncs}
use Rattle.dtx_level.specs.Levelled.{By, by_sync, level, levelled_behind, stretches}
use Rattle.dtx_level.proofs.MeasuresBehind.{by_behind}
use Rattle.dtx_level.proofs.SyncsBehind.{all_skip}

stretches_behind : (by : By) (front v : List ℤ) (from : ℕ) (places : List ℕ)
    → stretches by (front ++ v) (length front + from) (map (λ i. length front + i) places) ≡ stretches by v from places
unfolding stretches
stretches_behind by front v from [] = ap (map (level by)) (drop-append-add front v from)
stretches_behind by front v from (p ∷ places) =
    let far : length front + p - (length front + from) ≡ p - from = omega arith in
    ap₂ ◌++◌ (ap₂ (λ n (xs : List ℤ). map (level by) (take n xs)) far (drop-append-add front v from))
    (rw (by_behind front v p, stretches_behind (by_sync v p) front v p places))

front_stretch : (by : By) (front v : List ℤ) (places : List ℕ)
    → stretches by (front ++ v) 0 (map (λ i. length front + i) places) ≡ map (level by) front ++ stretches by v 0 places
unfolding stretches
front_stretch by front v [] = map-append (level by) front v
front_stretch by front v (p ∷ places) =
    let far : length front + p - 0 ≡ length front + p = omega arith in
    ap₂ ◌++◌ (grind (arith, take-append-add, map-append))
    (ap (λ (x : By). stretches x (front ++ v) (length front + p) (map (λ i. length front + i) places))
    (by_behind front v p) ∙ stretches_behind (by_sync v p) front v p places)
    ∙ append_assoc (map (level by) front) (map (level by) (take (p - 0) v)) (stretches (by_sync v p) v p places)

pub levelled_skip : (by : By) (front v : List ℤ) → ((p : ℕ) → p < length front → shows (front ++ v) p ≡ false)
    → levelled_behind by (front ++ v) ≡ map (level by) front ++ levelled_behind by v
unfolding levelled_behind
levelled_skip by front v h = grind (arith, all_skip, front_stretch)

pub levelled_next : (by : By) (front v : List ℤ)
    → all_syncs (front ++ v) ≡ 0 ∷ map (λ i. length front + i) (all_syncs v) → levelled_behind by (front ++ v)
    ≡ map (level (by_sync (front ++ v) 0)) front ++ levelled_behind (by_sync (front ++ v) 0) v
unfolding levelled_behind stretches
levelled_next by front v e = grind (arith, front_stretch)

-- all where no sync is
pub levelled_alone : (by : By) (v : List ℤ) → all_syncs v ≡ [] → levelled_behind by v ≡ map (level by) v
unfolding levelled_behind stretches
levelled_alone by v e = ap (stretches by v 0) e

-- all by a sync in front
pub levelled_last : (by : By) (v : List ℤ) → all_syncs v ≡ 0 ∷ [] → levelled_behind by v ≡ map (level (by_sync v 0)) v
unfolding levelled_behind stretches
levelled_last by v e = ap (stretches by v 0) e
