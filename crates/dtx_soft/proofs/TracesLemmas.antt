-- The walk on, one symbol further.
use Rattle.std.proofs.Common.{◌≡◌, ℕ, ℤ, pos, ◌+◌, ◌*◌, ◌/◌, ◌<◌, ◌≤◌, List, [], ◌∷◌, ◌++◌, length, take, drop, min}
use Rattle.std.proofs.Common.{append-nil, append_assoc, get_or, map, slice_set, take_all, refl, sym, ap, ap₂, ◌∙◌}
use Rattle.std.proofs.Common.{subst, arith}
use Rattle.std.specs.List.{zip}
use Rattle.std.proofs.lemmas.List.{drop_all, drop_more, length-append, length-take, map-append, map-set, take_more}
use Rattle.std.proofs.lemmas.List.{take_more_set}
use Rattle.std.proofs.lemmas.List.Sums.{sum_by-cons}
use Rattle.dtx_soft.specs.declared.gaps.Gap.{Gap}
use Rattle.dtx_soft.specs.declared.trace.Stand.{Stand}
use Rattle.dtx_soft.specs.Coders.{AreLeast}
use Rattle.dtx_soft.specs.Gaps.{AreLeastGaps, AreMarks, column, row_of}
use Rattle.dtx_soft.specs.Least.{IsLeast, IsLeastFrom}
use Rattle.dtx_soft.specs.Paths.{distance, next_state, squared, symbol_at}
use Rattle.dtx_soft.specs.Trace.{IsNext, IsStart, pair_of}
use Rattle.dtx_soft.proofs.Paths.{nothing_least, one_more}
use Rattle.dtx_soft.proofs.Rows.{row_is}
use Rattle.dtx_soft.proofs.NearerSymbols.{nearer_is_symbol}
use Rattle.dtx_soft.proofs.Starts.{least_from_start}
use Rattle.dtx_soft.proofs.Steps.{IsFirstLeast, next_pair, next_taken, taken_first_least}

pub distance-more : (xs ys : List ℤ) (x y : ℤ) → length xs ≡ length ys
    → distance (xs ++ (x ∷ [])) (ys ++ (y ∷ [])) ≡ distance xs ys + squared x y
unfolding distance
distance-more [] [] x y e = omega (arith, sum_by-cons (λ (pair : ℤ × ℤ). squared pair.0 pair.1) (x, y) [])
distance-more [] (b ∷ ys) x y e = absurd (omega arith)
distance-more (a ∷ xs) [] x y e = absurd (omega arith)
distance-more (a ∷ xs) (b ∷ ys) x y e =
    let f = distance-more xs ys x y (omega arith) in
    let g = sum_by-cons (λ (pair : ℤ × ℤ). squared pair.0 pair.1) (a, b) (zip (xs ++ (x ∷ [])) (ys ++ (y ∷ []))) in
    let h = sum_by-cons (λ (pair : ℤ × ℤ). squared pair.0 pair.1) (a, b) (zip xs ys) in
    omega (arith, f, g, h)

-- what is written so far goes on with any least path from the state that it leads to
pub record IsUnderWay (scale : ℕ) (symbols now : List ℤ) (t : ℕ) (stand : Stand) : Type 0 where
  pub start : ℕ
  pub levels : List ℕ
  pub q1 : stand.q1 < 2
  pub q0 : stand.q0 < 2
  pub small : stand.cost ≤ 64516 * t
  pub long : length levels ≡ t
  pub goes_on : (rest : List ℕ) → IsLeastFrom scale (drop t symbols) (2 * stand.q1 + stand.q0) rest
      → IsLeastFrom scale symbols start (levels ++ rest)
  pub written : take t now ≡ map (symbol_at scale) levels
  pub cost : stand.cost ≡ distance (take t symbols) (take t now)
  pub whole : (levels : List ℕ) → IsLeastFrom scale symbols start levels → IsLeast scale symbols start levels

pub sets_out : (scale : ℕ) (symbols : List ℤ) (gap : Gap ℤ) (stand : Stand) → IsStart gap stand
    → AreLeastGaps scale symbols gap → IsUnderWay scale symbols symbols 0 stand
unfolding distance
sets_out scale symbols gap stand s p = record {
  start = 2 * stand.q1 + stand.q0;
  levels = [];
  q1 = s.q1;
  q0 = s.q0;
  small = (let e = s.cost in omega arith);
  long = refl;
  goes_on = λ rest h. h;
  written = refl;
  cost = s.cost;
  whole = λ levels h. least_from_start scale symbols gap stand levels s p h;
}

pub goes_further : (scale : ℕ) (symbols now : List ℤ) (t marks : ℕ) (old new : Stand) (written : ℤ) → scale ≤ 18
    → t < length symbols → length now ≡ length symbols → AreMarks scale symbols t marks
    → IsNext scale (get_or symbols t (pos 0)) marks old new written → IsUnderWay scale symbols now t old
    → IsUnderWay scale symbols (slice_set now t written) (t + 1) new
goes_further scale symbols now t marks old new written small l n m next u = record {
  start = u.start;
  levels = u.levels ++ (level ∷ []);
  q1 = (let e = next.q1 in omega arith);
  q0 = (let e = next.q0 in let f = u.q1 in omega arith);
  small = (let a = u.small in let b = next.cost in let d = next.small in omega arith);
  long = length-append u.levels (level ∷ []) ∙ ap (λ n. n + 1) u.long;
  goes_on = λ rest h. subst (IsLeastFrom scale symbols u.start) (sym (append_assoc u.levels (level ∷ []) rest))
      (u.goes_on (level ∷ rest)
      (longer rest (subst (λ s. IsLeastFrom scale (drop (t + 1) symbols) s rest) state_is h)));
  written = take_more_set now t written (omega (arith, n)) ∙ ap₂ (λ (xs ys : List ℤ). xs ++ ys) u.written
      (grind (arith, nearer_is_symbol, v, pair)) ∙ sym (map-append (symbol_at scale) u.levels (level ∷ []));
  cost = next.cost ∙ ap (λ n. n + squared v written) u.cost
      ∙ sym (distance-more (take t symbols) (take t now) v written (omega (arith, front t symbols, front t now)))
      ∙ ap₂ distance (sym (take_more symbols t (pos 0) l)) (sym (take_more_set now t written (omega (arith, n))));
  whole = u.whole;
}
  where
    v : ℤ
    v = get_or symbols t (pos 0)

    state : ℕ
    state = 2 * old.q1 + old.q0

    pair : ℕ
    pair = pair_of marks old.q1 old.q0

    level : ℕ
    level = get_or (row_of scale v).levels (old.q1 + 2 * pair) 0

    low : state < 4
    low = (let a = u.q1 in let b = u.q0 in omega arith)

    half : state / 2 ≡ old.q1
    half = (let b = u.q0 in omega arith)

    taken : IsFirstLeast scale v m.behind state level
    taken = subst (λ q1. IsFirstLeast scale v m.behind state (get_or (row_of scale v).levels (q1 + 2 * pair) 0)) half
        (taken_first_least scale v (row_of scale v) m.behind state pair (row_is scale v small next.from next.to) low
        (m.taken state low))

    state_is : 2 * new.q1 + new.q0 ≡ next_state state level
    state_is = ap₂ (λ x y. 2 * x + y) next.q1 next.q0 ∙ next_pair old.q1 old.q0 pair u.q1 u.q0 (omega arith)
        ∙ sym (next_taken scale v (row_of scale v) state (old.q1 + 2 * pair) (row_is scale v small next.from next.to)
        (let a = u.q1 in omega arith))

    longer : (rest : List ℕ) → IsLeastFrom scale (drop (t + 1) symbols) (next_state state level) rest
        → IsLeastFrom scale (drop t symbols) state (level ∷ rest)
    longer rest h =
        subst (λ symbols. IsLeastFrom scale symbols state (level ∷ rest)) (sym (drop_more symbols t (pos 0) l))
        (one_more scale v (drop (t + 1) symbols) m.behind state level rest m.least low taken h)

    front : (t : ℕ) (xs : List ℤ) → length (take t xs) ≡ min t (length xs)
    front t xs = length-take t xs

pub arrives : (scale : ℕ) (symbols now : List ℤ) (t : ℕ) (stand : Stand) → t ≡ length symbols
    → length now ≡ length symbols → IsUnderWay scale symbols now t stand
    → AreLeast scale symbols now × (stand.cost ≡ distance symbols now)
arrives scale symbols now t stand e n u = (
  record {
    start = u.start;
    levels = u.levels;
    least = u.whole u.levels (subst (IsLeastFrom scale symbols u.start) (append-nil u.levels)
        (u.goes_on [] (subst (λ rest. IsLeastFrom scale rest (2 * stand.q1 + stand.q0) [])
        (sym (drop_all t symbols (omega arith))) (nothing_least scale (2 * stand.q1 + stand.q0)))));
    symbols = sym (take_all t now (omega arith)) ∙ u.written;
  },
  u.cost ∙ ap₂ distance (take_all t symbols (omega arith)) (take_all t now (omega arith)),
)

pub column-set : (rounds : List (List ℤ)) (n t : ℕ) (round : List ℤ)
    → column (slice_set rounds t round) n ≡ slice_set (column rounds n) t (get_or round n (pos 0))
unfolding column
column-set rounds n t round = map-set (λ round. get_or round n (pos 0)) rounds t round
