-- Symbols in front of which no place shows a sync.
use Rattle.std.proofs.Common.{◌≡◌, ℕ, ℤ, ◌+◌, ◌<◌, true, false, Option, Some, None, option_map, List, [], ◌∷◌, ◌++◌}
use Rattle.std.proofs.Common.{length, map, refl, ap, ap₂, ◌∙◌, arith}
use Rattle.dtx_level.specs.Shown.{shows}
use Rattle.dtx_level.specs.Syncs.{all_syncs, slips_behind}
use Rattle.dtx_level.specs.Levelled.{levelled}
use Rattle.dtx_level.specs.Measures.{IsLater}
use Rattle.dtx_level.proofs.SyncsBehind.{all_skip}
use Rattle.dtx_level.proofs.MeasuresBehind.{measures_skip}
use Rattle.dtx_level.proofs.StretchesBehind.{levelled_skip}
use Rattle.dtx_level.proofs.Taking.{silent_level}

slips_later : (k : ℕ) (o : Option ℕ) (places : List ℕ)
    → slips_behind (option_map (λ i. k + i) o) (map (λ i. k + i) places) ≡ slips_behind o places
unfolding slips_behind
slips_later k o [] = refl
slips_later k o (p ∷ places) = ap₂ (λ a b. a + b) (grind arith) (slips_later k (Some p) places)

pub later_is : (front v : List ℤ) → ((p : ℕ) → p < length front → shows (front ++ v) p ≡ false) → IsLater front v
unfolding levelled
later_is front v h = record {
  levelled_is = grind (arith, all_skip, levelled_skip, silent_level);
  measures_are = measures_skip (λ met. true) front v h;
  slips_are = ap (slips_behind None) (all_skip front v h) ∙ slips_later (length front) None (all_syncs v);
}
