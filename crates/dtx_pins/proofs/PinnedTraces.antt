-- The walk on, one symbol further.
use Rattle.std.proofs.Common.{◌≡◌, ℕ, zero, suc, ℤ, pos, ◌+◌, ◌-◌, ◌*◌, ◌/◌, ◌%◌, ◌<◌, ◌≤◌, ◌⊎◌, inl, inr, List, []}
use Rattle.std.proofs.Common.{◌∷◌, ◌++◌, length, take, drop, append-nil, append_assoc, get_or, map, take_all, refl}
use Rattle.std.proofs.Common.{sym, ap, ap₂, ◌∙◌, subst, arith}
use Rattle.std.proofs.lemmas.Bool.{cases_lt}
use Rattle.std.proofs.lemmas.List.{drop_all, drop_more, get_or-append_right, get_or-map, get_or_append_left}
use Rattle.std.proofs.lemmas.List.{length-append, length-map, length-take, map-append, take_more}
use Rattle.std.proofs.lemmas.List.FromFn.{fill_by_all}
use Rattle.dtx_soft.specs.Paths.{cost, distance, next_state, squared, symbol_at}
use Rattle.dtx_soft.proofs.TracesLemmas.{distance-more}
use Rattle.dtx_pins.specs.declared.start.Stand.{Stand}
use Rattle.dtx_pins.specs.LeastPinned.{IsLeastPinned, least_pinned_levels}
use Rattle.dtx_pins.specs.PinnedField.{AreLeastPinned}
use Rattle.dtx_pins.specs.Pins.{pin_at}
use Rattle.dtx_pins.specs.Steps.{level_by, number_of}
use Rattle.dtx_pins.specs.Trace.{IsNext, IsStart, IsTraced, state_of}
use Rattle.dtx_pins.specs.Walks.{AreLeastCosts, AreLeastSums, IsMark}
use Rattle.dtx_pins.proofs.LeastPinnedLemmas.{least_pinned_levels_are}
use Rattle.dtx_pins.proofs.PinnedPaths.{IsBestLevel, IsLeastFrom, best_level, nothing_least, one_more}
use Rattle.dtx_pins.proofs.PinnedStarts.{from_start}
use Rattle.dtx_pins.proofs.PinnedUnits.{start_units}
use Rattle.dtx_pins.proofs.PinnedWalks.{pin_here, pins_behind}

-- what is written so far goes on with any least path from where it stands
pub record IsUnderWay (scale : ℕ) (pins : List ℕ) (symbols now : List ℤ) (t : ℕ) (stand : Stand) : Type 0 where
  pub former : ℕ
  pub start : ℕ
  pub levels : List ℕ
  pub former_small : stand.former < 2
  pub q1 : stand.q1 < 2
  pub q0 : stand.q0 < 2
  pub long : length levels ≡ t
  pub goes_on : (rest : List ℕ)
      → IsLeastFrom scale (drop t pins) (drop t symbols) stand.former (state_of stand) rest
      → IsLeastFrom scale pins symbols former start (levels ++ rest)
  pub written : (k : ℕ) → k < t → get_or now k (pos 0) ≡ symbol_at 1 (get_or levels k 0)
  pub spent : stand.cost ≡ cost scale (take t symbols) levels
  pub whole : (levels : List ℕ) → IsLeastFrom scale pins symbols former start levels
      → IsLeastPinned scale pins symbols start levels

pub sets_out : (scale : ℕ) (pins : List ℕ) (symbols now : List ℤ) (sums : List (List ℕ)) (stand : Stand)
    → IsStart (pin_at pins 0) sums stand → AreLeastSums scale pins symbols sums
    → IsUnderWay scale pins symbols now 0 stand
unfolding cost distance
sets_out scale pins symbols now sums stand s p = record {
  former = stand.former;
  start = state_of stand;
  levels = [];
  former_small = s.former;
  q1 = s.q1;
  q0 = s.q0;
  long = refl;
  goes_on = λ rest h. h;
  written = λ k l. absurd (omega arith);
  spent = s.cost;
  whole = λ levels h. from_start scale pins symbols p.costs stand levels
      (start_units scale (pin_at pins 0) p.costs sums stand p.units s) p.least h;
}

-- the state behind a level
next_is : (q1 q0 k : ℕ) → q1 < 2 → q0 < 2
    → 2 * ((k % 2 + q0) % 2) + q1 ≡ next_state (2 * q1 + q0) (level_by (2 * q1 + q0) k)
unfolding next_state
next_is q1 q0 k l m = grind arith

-- what levels cost, with one level more
cost-more : (scale t : ℕ) (symbols : List ℤ) (levels : List ℕ) (z : ℕ) → t < length symbols → length levels ≡ t
    → cost scale (take (t + 1) symbols) (levels ++ (z ∷ []))
    ≡ cost scale (take t symbols) levels + squared (get_or symbols t (pos 0)) (symbol_at scale z)
unfolding cost
cost-more scale t symbols levels z l n = ap₂ distance (take_more symbols t (pos 0) l) (grind (arith, map-append))
    ∙ distance-more (take t symbols) (map (symbol_at scale) levels) (get_or symbols t (pos 0)) (symbol_at scale z)
    (omega (arith, n, length-take t symbols, length-map levels (symbol_at scale)))

goes_further : (scale : ℕ) (pins : List ℕ) (symbols now : List ℤ) (t mark : ℕ) (old new : Stand) (written : ℤ)
    → t < length symbols → get_or now t (pos 0) ≡ written → IsMark scale pins symbols t mark
    → IsNext scale (get_or symbols t (pos 0)) mark old new written → IsUnderWay scale pins symbols now t old
    → IsUnderWay scale pins symbols now (t + 1) new
goes_further scale pins symbols now t mark old new written l n m next u = record {
  former = u.former;
  start = u.start;
  levels = u.levels ++ (level ∷ []);
  former_small = (let e = next.former in let f = next.number_small in omega arith);
  q1 = (let e = next.q1 in omega arith);
  q0 = (let e = next.q0 in let f = u.q1 in omega arith);
  long = length-append u.levels (level ∷ []) ∙ ap (λ n. n + 1) u.long;
  goes_on = λ rest h. subst (IsLeastFrom scale pins symbols u.former u.start)
      (sym (append_assoc u.levels (level ∷ []) rest)) (u.goes_on (level ∷ rest) (longer rest
      (subst (λ s. IsLeastFrom scale (drop (t + 1) pins) (drop (t + 1) symbols) (level / 4) s rest) state_is
      (subst (λ f. IsLeastFrom scale (drop (t + 1) pins) (drop (t + 1) symbols) f (state_of new) rest) former_is h))));
  written = λ k o. by_place k o (cases_lt k t);
  spent = next.cost ∙ ap₂ (λ n z. n + squared v (symbol_at scale z)) u.spent level_is
      ∙ sym (cost-more scale t symbols u.levels level l u.long);
  whole = u.whole;
}
  where
    v : ℤ
    v = get_or symbols t (pos 0)

    state : ℕ
    state = state_of old

    number : ℕ
    number = number_of mark old.former (state_of old)

    level : ℕ
    level = level_by (state_of old) (number_of mark old.former (state_of old))

    low : state_of old < 4
    low = (let a = u.q1 in let b = u.q0 in omega arith)

    level_is : 2 * number_of mark old.former (state_of old) + old.q1
        ≡ level_by (state_of old) (number_of mark old.former (state_of old))
    level_is = (let b = u.q0 in omega arith)

    former_is : new.former ≡ level_by (state_of old) (number_of mark old.former (state_of old)) / 4
    former_is = (let e = next.former in let a = u.q1 in let b = u.q0 in omega arith)

    state_is : state_of new
        ≡ next_state (state_of old) (level_by (state_of old) (number_of mark old.former (state_of old)))
    state_is = ap₂ (λ x y. 2 * x + y) next.q1 next.q0
        ∙ next_is old.q1 old.q0 (number_of mark old.former (state_of old)) u.q1 u.q0

    best : IsBestLevel scale (pin_at pins t) (get_or symbols t (pos 0)) m.behind old.former (state_of old)
        (level_by (state_of old) (number_of mark old.former (state_of old)))
    best = best_level scale (pin_at pins t) (get_or symbols t (pos 0)) m.behind old.former (state_of old)
        (number_of mark old.former (state_of old)) u.former_small low
        (m.best old.former (state_of old) u.former_small low)

    longer : (rest : List ℕ) → IsLeastFrom scale (drop (t + 1) pins) (drop (t + 1) symbols)
        (level_by (state_of old) (number_of mark old.former (state_of old)) / 4)
        (next_state (state_of old) (level_by (state_of old) (number_of mark old.former (state_of old)))) rest
        → IsLeastFrom scale (drop t pins) (drop t symbols) old.former (state_of old)
        (level_by (state_of old) (number_of mark old.former (state_of old)) ∷ rest)
    longer rest h = subst (λ symbols. IsLeastFrom scale (drop t pins) symbols old.former (state_of old)
        (level_by (state_of old) (number_of mark old.former (state_of old)) ∷ rest))
        (sym (drop_more symbols t (pos 0) l))
        (one_more scale (get_or symbols t (pos 0)) (drop t pins) (drop (t + 1) symbols) m.behind old.former
        (state_of old) (level_by (state_of old) (number_of mark old.former (state_of old))) rest
        (subst (λ pins. AreLeastCosts scale pins (drop (t + 1) symbols) m.behind)
        (sym (pins_behind pins t (t + 1) refl)) m.least) low
        (subst (λ pin. IsBestLevel scale pin (get_or symbols t (pos 0)) m.behind old.former (state_of old)
        (level_by (state_of old) (number_of mark old.former (state_of old)))) (sym (pin_here pins t)) best)
        (subst (λ pins. IsLeastFrom scale pins (drop (t + 1) symbols)
        (level_by (state_of old) (number_of mark old.former (state_of old)) / 4)
        (next_state (state_of old) (level_by (state_of old) (number_of mark old.former (state_of old)))) rest)
        (sym (pins_behind pins t (t + 1) refl)) h))

    by_place : (k : ℕ) → k < t + 1 → (k < t) ⊎ (t ≤ k)
        → get_or now k (pos 0) ≡ symbol_at 1 (get_or (u.levels ++ (level ∷ [])) k 0)
    by_place k o (inl before) = u.written k before
        ∙ ap (symbol_at 1) (sym (get_or_append_left u.levels (level ∷ []) 0 k (omega (arith, u.long, before))))
    by_place k o (inr there) = grind (arith, get_or-append_right)

-- several steps further
pub goes_on : (scale : ℕ) (pins : List ℕ) (symbols now : List ℤ) (t : ℕ) (heard : ℕ → ℤ) (marks : ℕ → ℕ)
    (written : ℕ → ℤ) (n : ℕ) (old new : Stand) → t + n ≤ length symbols
    → ((k : ℕ) → k < n → get_or symbols (t + k) (pos 0) ≡ heard k)
    → ((k : ℕ) → k < n → get_or now (t + k) (pos 0) ≡ written k)
    → ((k : ℕ) → k < n → IsMark scale pins symbols (t + k) (marks k))
    → IsTraced scale heard marks written n old new → IsUnderWay scale pins symbols now t old
    → IsUnderWay scale pins symbols now (t + n) new
goes_on scale pins symbols now t heard marks written zero old new l e f m traced u = grind arith
goes_on scale pins symbols now t heard marks written (suc n) old new l e f m traced u =
    let next : t + n + 1 ≡ t + suc n = omega arith in
    subst (λ t. IsUnderWay scale pins symbols now t new) next
    (goes_further scale pins symbols now (t + n) (marks n) traced.0 new (written n) (omega (arith, l))
    (f n (omega arith)) (m n (omega arith))
    (subst (λ v. IsNext scale v (marks n) traced.0 new (written n)) (sym (e n (omega arith))) traced.2)
    (goes_on scale pins symbols now t heard marks written n old traced.0 (omega (arith, l))
    (λ k o. e k (omega (arith, o))) (λ k o. f k (omega (arith, o))) (λ k o. m k (omega (arith, o))) traced.1 u))

-- where the symbols that are written so far stand elsewhere
pub goes_elsewhere : (scale : ℕ) (pins : List ℕ) (symbols now other : List ℤ) (t : ℕ) (stand : Stand)
    → ((k : ℕ) → k < t → get_or other k (pos 0) ≡ get_or now k (pos 0)) → IsUnderWay scale pins symbols now t stand
    → IsUnderWay scale pins symbols other t stand
goes_elsewhere scale pins symbols now other t stand e u = grind (arith, goes_on)

pub arrives : (scale : ℕ) (pins : List ℕ) (symbols now : List ℤ) (t : ℕ) (stand : Stand) → t ≡ length symbols
    → length now ≡ length symbols → IsUnderWay scale pins symbols now t stand → AreLeastPinned scale 1 pins symbols now
    × (stand.cost ≡ cost scale symbols (least_pinned_levels scale pins symbols))
arrives scale pins symbols now t stand e n u = (
  record { start = u.start; levels = u.levels; least = least; symbols = written },
  u.spent ∙ ap₂ (cost scale) (take_all t symbols (omega (arith, e))) (grind (arith, least_pinned_levels_are, least)),
)
  where
    least : IsLeastPinned scale pins symbols u.start u.levels
    least = u.whole u.levels (subst (IsLeastFrom scale pins symbols u.former u.start) (append-nil u.levels)
        (u.goes_on [] (subst (λ rest. IsLeastFrom scale (drop t pins) rest stand.former (state_of stand) [])
        (sym (drop_all t symbols (omega (arith, e))))
        (nothing_least scale (drop t pins) stand.former (state_of stand)))))

    written : now ≡ map (symbol_at 1) u.levels
    written = fill_by_all (λ k. symbol_at 1 (get_or u.levels k 0)) now t (pos 0) (n ∙ sym e) u.written
        ∙ sym (fill_by_all (λ k. symbol_at 1 (get_or u.levels k 0)) (map (symbol_at 1) u.levels) t (pos 0)
        (length-map u.levels (symbol_at 1) ∙ u.long)
        (λ k l. get_or-map (symbol_at 1) u.levels k 0 (pos 0) (omega (arith, l, u.long))))
