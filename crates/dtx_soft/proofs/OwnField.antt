-- Segments whose coders' symbols are paths' own.
use Rattle.std.proofs.Common.{◌≡◌, ℕ, zero, suc, ℤ, ◌+◌, ◌<◌, List, [], drop, get_or, length, map, refl, sym, ap, ap₂}
use Rattle.std.proofs.Common.{◌∙◌, arith}
use Rattle.dtx_soft.specs.Coders.{AreLeast, IsSoftened, coder_symbols, coders_distance}
use Rattle.dtx_soft.specs.Least.{least_path}
use Rattle.dtx_soft.proofs.LeastPathLemmas.{least_path_found}
use Rattle.dtx_soft.proofs.MovedLemmas.{distance_same}
use Rattle.dtx_soft.specs.Paths.{symbol_at}
use Rattle.dtx_soft.specs.Softened.{IsOwn, softened, softened_cost}
use Rattle.dtx_soft.proofs.SoftenedLemmas.{cost_is, softened_is}
use Rattle.dtx_soft.proofs.OwnSymbols.{own_symbols}
use Rattle.dtx_soft.proofs.Softened.{coders_distance_more}

own_least : (scale : ℕ) (symbols : List ℤ) → IsOwn scale symbols → AreLeast scale symbols symbols
own_least scale symbols h =
    let levels = map (symbol_at scale) h.levels in
    let own = own_symbols scale h.start (get_or (least_path scale levels) 0 0) h.levels
    (drop 1 (least_path scale levels)) h.begins h.path (least_path_found scale levels) in
    record {
      start = get_or (least_path scale symbols) 0 0;
      levels = drop 1 (least_path scale symbols);
      least = least_path_found scale symbols;
      symbols = h.same ∙ sym own.1
          ∙ ap (λ xs. map (symbol_at scale) (drop 1 (least_path scale xs))) (sym h.same);
    }

no_costs : (segments : List (List ℤ)) (n : ℕ) → coders_distance segments segments n ≡ 0
unfolding coders_distance
no_costs segments zero = refl
no_costs segments (suc n) =
    let next : suc n ≡ n + 1 = omega arith in
    ap (coders_distance segments segments) next ∙ coders_distance_more segments segments n
    ∙ ap₂ (λ a b. a + b) (no_costs segments n) (distance_same (coder_symbols segments n))

pub own_field : (scale : ℕ) (segments : List (List ℤ))
    → ((i : ℕ) → i < length segments → length (get_or segments i []) ≡ 832)
    → ((e : ℕ) → e < 12 → IsOwn scale (coder_symbols segments e))
    → (softened scale segments ≡ segments) × (softened_cost scale segments ≡ 0)
own_field scale segments rows own = (
  sym (softened_is scale segments segments stays rows),
  sym (cost_is scale segments segments stays) ∙ no_costs segments 12,
)
  where
    stays : IsSoftened scale segments segments
    stays = grind (arith, own_least)
