use Rattle.std.proofs.Common.{◌≡◌, ℕ, ℤ, ◌+◌, ◌-◌, ◌*◌, ◌/◌, ◌%◌, ◌^◌, ◌<◌, List, [], ◌∷◌, ◌++◌, append-nil}
use Rattle.std.proofs.Common.{append_assoc, drop, get_or, pos, rules, slice_set, sym, take, take_all, ap, ◌∙◌, subst}
use Rattle.std.proofs.Common.{w8, arith}
use mir.Val.{SFits}
use Rattle.std.proofs.lemmas.Int.{to_z-of_z}
use Rattle.std.proofs.lemmas.List.{drop_all, drop_more, length-set, take_more_set}
use Rattle.dtx_soft.specs.Paths.{next_state}
use Rattle.dtx_soft.specs.Least.{IsLeastFrom}
use Rattle.dtx_soft.specs.Nearest.{AreNearest, IsTaken}
use Rattle.dtx_soft.proofs.Paths.{nothing_least, one_more}
use Rattle.dtx_soft.proofs.Steps.{IsFirstLeast, next_pair, next_taken, taken_first_least}
use Rattle.dtx_soft.proofs.walk.follow.Goals as goal

pub loop-t-preserved : goal.loop-t-preserved
loop-t-preserved c = record {
  q1 = omega arith;
  q0 = c.loop-t.invariant.q1;
  long = length-set c.loop-t.levels c.loop-t.t level ∙ c.loop-t.invariant.long;
  goes_on = λ rest h. subst (IsLeastFrom c.args.table.now.scale c.args.symbols.now c.args.start) (sym (written rest))
      (c.loop-t.invariant.goes_on (level ∷ rest) (longer rest
      (subst (λ s. IsLeastFrom c.args.table.now.scale (drop (c.loop-t.t + 1) c.args.symbols.now) s rest) next h)));
}
  where
    symbol : ℤ
    symbol = get_or c.args.symbols.now c.loop-t.t (pos 0)

    state : ℕ
    state = 2 * c.loop-t.q1 + c.loop-t.q0

    pair : ℕ
    pair = c.taken.result / 2 ^ (2 * (1 - c.loop-t.q0) + c.loop-t.q1) % 2

    level : ℕ
    level = get_or c.row-row.result.now.levels (c.loop-t.q1 + 2 * pair) 0

    small : state < 4
    small = (let l = c.loop-t.invariant.q1 in let m = c.loop-t.invariant.q0 in omega arith)

    half : state / 2 ≡ c.loop-t.q1
    half = (let l = c.loop-t.invariant.q0 in omega arith)

    at : 2 * (1 - state % 2) + state / 2 ≡ 2 * (1 - c.loop-t.q0) + c.loop-t.q1
    at = (let l = c.loop-t.invariant.q0 in omega arith)

    fits : SFits w8 (get_or c.args.symbols.now c.loop-t.t (pos 0))
    fits = search rules

    row : AreNearest c.args.table.now.scale symbol c.row-row.result.now
    row = subst (λ v. AreNearest c.args.table.now.scale v c.row-row.result.now)
        (to_z-of_z w8 (get_or c.args.symbols.now c.loop-t.t (pos 0)) fits) c.row-row.ensures

    bit : IsTaken c.row-row.result.now (get_or c.args.potentials.now (c.loop-t.t + 1) []) state pair
    bit = subst (λ k. IsTaken c.row-row.result.now (get_or c.args.potentials.now (c.loop-t.t + 1) []) state
        (c.taken.result / 2 ^ k % 2)) at (c.taken.ensures state small)

    taken : IsFirstLeast c.args.table.now.scale symbol (get_or c.args.potentials.now (c.loop-t.t + 1) []) state level
    taken =
        subst (λ q1. IsFirstLeast c.args.table.now.scale symbol (get_or c.args.potentials.now (c.loop-t.t + 1) []) state
        (get_or c.row-row.result.now.levels (q1 + 2 * pair) 0)) half
        (taken_first_least c.args.table.now.scale symbol c.row-row.result.now
        (get_or c.args.potentials.now (c.loop-t.t + 1) []) state pair row small bit)

    next : 2 * ((pair + c.loop-t.q0) % 2) + c.loop-t.q1 ≡ next_state state level
    next = next_pair c.loop-t.q1 c.loop-t.q0 pair c.loop-t.invariant.q1 c.loop-t.invariant.q0 (omega arith)
        ∙ sym (next_taken c.args.table.now.scale symbol c.row-row.result.now state (c.loop-t.q1 + 2 * pair) row
        (let l = c.loop-t.invariant.q1 in omega arith))

    longer : (rest : List ℕ)
        → IsLeastFrom c.args.table.now.scale (drop (c.loop-t.t + 1) c.args.symbols.now) (next_state state level) rest
        → IsLeastFrom c.args.table.now.scale (drop c.loop-t.t c.args.symbols.now) state (level ∷ rest)
    longer rest h = subst (λ symbols. IsLeastFrom c.args.table.now.scale symbols state (level ∷ rest))
        (sym (drop_more c.args.symbols.now c.loop-t.t (pos 0) (omega arith)))
        (one_more c.args.table.now.scale symbol (drop (c.loop-t.t + 1) c.args.symbols.now)
        (get_or c.args.potentials.now (c.loop-t.t + 1) []) state level rest
        (λ s l. c.requires.potentials (c.loop-t.t + 1) s (omega arith) l) small taken h)

    written : (rest : List ℕ) → take (c.loop-t.t + 1) (slice_set c.loop-t.levels c.loop-t.t level) ++ rest
        ≡ take c.loop-t.t c.loop-t.levels ++ (level ∷ rest)
    written rest = ap (λ front. front ++ rest)
        (take_more_set c.loop-t.levels c.loop-t.t level (omega (arith, c.loop-t.invariant.long)))
        ∙ append_assoc (take c.loop-t.t c.loop-t.levels) (level ∷ []) rest

pub returns : goal.returns
returns c = subst (IsLeastFrom c.args.table.now.scale c.args.symbols.now c.args.start)
    (append-nil (take c.loop-t.t c.loop-t.levels)
    ∙ take_all c.loop-t.t c.loop-t.levels (omega (arith, c.loop-t.invariant.long))) (c.loop-t.invariant.goes_on []
    (subst (λ symbols. IsLeastFrom c.args.table.now.scale symbols (2 * c.loop-t.q1 + c.loop-t.q0) [])
    (sym (drop_all c.loop-t.t c.args.symbols.now (omega arith)))
    (nothing_least c.args.table.now.scale (2 * c.loop-t.q1 + c.loop-t.q0))))
