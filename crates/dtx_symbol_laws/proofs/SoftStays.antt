-- `soft` leaves the segments of a stream as they are.
use Rattle.std.proofs.Common.{◌≡◌, ℕ, ℤ, zero, suc, ◌+◌, ◌-◌, ◌*◌, ◌/◌, ◌%◌, ◌<◌, ◌≤◌, true, List, [], length, take}
use Rattle.std.proofs.Common.{drop, get_or, min, refl, sym, ap, ◌∙◌, arith}
use Rattle.std.proofs.lemmas.Bool.{cases_lt}
use Rattle.std.proofs.lemmas.List.{get_or-drop, get_or-take, get_or_default, get_or_past, length-take}
use Rattle.std.proofs.lemmas.List.FromFn.{fill_by_all}
use Rattle.dtx_frame.proofs.AlikeLemmas.{looks_alike}
use Rattle.dtx_frame.specs.Detection.{looks_like}
use Rattle.dtx_coder.proofs.CountsLemmas.{a53_segment}
use Rattle.dtx_coder.specs.Stream.{a53}
use Rattle.dtx_soft.specs.Coders.{coder_symbols}
use Rattle.dtx_soft.specs.Softened.{IsOwn, softened, softened_cost}
use Rattle.dtx_chain.proofs.PlacesLemmas.{sync_at_place}
use Rattle.dtx_recipes.specs.Soft.{count_from, field_sum, in_groups, place_at, soft_at, soft_from, soft_symbols}
use Rattle.dtx_jobs.proofs.SoftLemmas.{none_counts}
use Rattle.dtx_recipes.proofs.SoftPlacesLemmas.{place_first}
use Rattle.dtx_symbol_laws.specs.SoftFields.{place_behind}
use Rattle.dtx_symbol_laws.proofs.SoftPlaces.{in_run}
use Rattle.dtx_symbol_laws.proofs.SoftStream.{TakesPaths, count, field_at, field_own, length-field}

-- ---- places

-- a field sync stands wherever one is due in a run that begins with the first segment
abbrev pub IsInStep : List (List ℤ) → Type 0
IsInStep s = (i : ℕ) → i < length s → i % 313 ≡ 0 → looks_like (get_or s i []) ≡ true

pub in_step : (s : List (List ℤ)) → IsInStep s → (i : ℕ) → i ≤ length s → place_at s i ≡ place_behind (i % 313)
in_step s h i l = ap (λ k. place_at s k) (omega arith) ∙ in_run s 0 (length s) i (omega arith) at place_first l
  where
    at : (j : ℕ) → j < length s → j % 313 ≡ 0 → looks_like (get_or s (0 + j) []) ≡ true
    at j k e = (let same : 0 + j ≡ j = omega arith in ap (λ n. looks_like (get_or s n [])) same ∙ h j k e)

pub stream_in_step : (ps : List (List ℕ)) → IsInStep (a53 ps)
stream_in_step ps i l e = (let sync = sync_at_place ps i l e in ap looks_like sync.2 ∙ looks_alike sync.0 sync.1)

-- ---- fields

-- that a field whose symbols are paths' own stays
abbrev pub KeepsOwn : Type 0
KeepsOwn = (scale : ℕ) (segments : List (List ℤ))
    → ((i : ℕ) → i < length segments → length (get_or segments i []) ≡ 832)
    → ((e : ℕ) → e < 12 → IsOwn scale (coder_symbols segments e))
    → (softened scale segments ≡ segments) × (softened_cost scale segments ≡ 0)

field_stays : TakesPaths → KeepsOwn → (ps : List (List ℕ)) (f : ℕ) → 313 * f + 1 ≤ length (a53 ps)
    → (softened 1 (in_groups (a53 ps) (313 * f + 1)) ≡ in_groups (a53 ps) (313 * f + 1))
    × (softened_cost 1 (in_groups (a53 ps) (313 * f + 1)) ≡ 0)
field_stays takes keeps ps f l = grind (arith, length-field, field_own, count, field_at, a53_segment)

-- an entry of a part, with that of the whole where the part has none
kept : {X : Type 0} (n first p i : ℕ) (xs : List X) (d : X) → first + p ≡ i → i < length xs
    → get_or (take n (drop first xs)) p (get_or xs i d) ≡ get_or xs i d
kept n first p i xs d e l = grind (arith, cases_lt, get_or-take, get_or-drop, get_or_default, get_or_past, length-take)

kept_groups : (s : List (List ℤ)) (first p i : ℕ) → first + p ≡ i → i < length s
    → get_or (in_groups s first) p (get_or s i []) ≡ get_or s i []
unfolding in_groups
kept_groups s first p i e l = kept (4 * (min 312 (length s - first) / 4)) first p i s [] e l

-- ---- all segments

stays_at : TakesPaths → KeepsOwn → (ps : List (List ℕ)) (i : ℕ) → i < length (a53 ps)
    → soft_at (a53 ps) i ≡ get_or (a53 ps) i []
unfolding soft_at
stays_at takes keeps ps i l = rw (in_step (a53 ps) (stream_in_step ps) i (omega arith), by_place (i % 313) refl)
  where
    by_place : (n : ℕ) → i % 313 ≡ n → soft_from (a53 ps) i (place_behind n) ≡ get_or (a53 ps) i []
    by_place zero e = refl
    by_place (suc p) e =
        let first : i - p ≡ 313 * (i / 313) + 1 = omega (arith, e) in
        let there : 313 * (i / 313) + 1 + p ≡ i = omega (arith, e) in
        ap (λ n. get_or (softened 1 (in_groups (a53 ps) n)) p (get_or (a53 ps) i [])) first
        ∙ ap (λ (rows : List (List ℤ)). get_or rows p (get_or (a53 ps) i []))
        (field_stays takes keeps ps (i / 313) (omega (arith, there, l))).0
        ∙ kept_groups (a53 ps) (313 * (i / 313) + 1) p i there l

pub stream_stays : TakesPaths → KeepsOwn → (ps : List (List ℕ)) → soft_symbols (a53 ps) ≡ a53 ps
unfolding soft_symbols
stream_stays takes keeps ps = sym (fill_by_all (soft_at (a53 ps)) (a53 ps) (length (a53 ps)) [] refl
    (λ i l. sym (stays_at takes keeps ps i l)))

costs_nothing_at : TakesPaths → KeepsOwn → (ps : List (List ℕ)) (i : ℕ) → i < length (a53 ps)
    → count_from (softened_cost 1) (a53 ps) i (place_at (a53 ps) i) ≡ 0
costs_nothing_at takes keeps ps i l =
    ap (count_from (softened_cost 1) (a53 ps) i) (in_step (a53 ps) (stream_in_step ps) i (omega arith))
    ∙ by_place (i % 313) refl
  where
    by_place : (n : ℕ) → i % 313 ≡ n → count_from (softened_cost 1) (a53 ps) i (place_behind n) ≡ 0
    by_place zero e = refl
    by_place (suc zero) e = grind (arith, field_stays)
    by_place (suc (suc p)) e = refl

pub stream_costs_nothing : TakesPaths → KeepsOwn → (ps : List (List ℕ))
    → field_sum (softened_cost 1) (a53 ps) (length (a53 ps)) ≡ 0
unfolding field_sum
stream_costs_nothing takes keeps ps = grind (arith, none_counts, costs_nothing_at)
