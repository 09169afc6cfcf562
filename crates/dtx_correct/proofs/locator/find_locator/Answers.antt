use Rattle.std.proofs.Common.{ℕ, ◌+◌, List, replicate, true, false, sym, subst, arith, get_or, take}
use Rattle.std.proofs.lemmas.List.{get_or-replicate, length-replicate}
use Rattle.dtx_laws.specs.Locator.{IsLocator, is_marked}
use Rattle.dtx_correct.specs.Elimination.{vector}
use Rattle.dtx_correct.proofs.Kept.{units_solve, count_all, kept_locator}
use Rattle.dtx_correct.proofs.locator.find_locator.Goals as goal

pub loop-equation-init : goal.loop-equation-init
loop-equation-init c = record {
  solves = units_solve (c.args.equations + 1) (λ i. get_or c.args.syndromes.now i 0)
      (is_marked (replicate 128 true)) c.units-vectors.result (omega (arith, c.requires)) c.units-vectors.ensures.units;
  count = omega (
    arith,
    count_all (is_marked (replicate 128 true)) (c.args.equations + 1)
        (λ j l. get_or-replicate 128 j true false (omega (arith, c.requires))),
  );
  long = (c.units-vectors.ensures.long, length-replicate 128 true);
}

pub first_kept-requires-clause-some : goal.first_kept-requires-clause-some
first_kept-requires-clause-some c = omega (arith, c.loop-equation.invariant.count)

pub returns-clause-locator : goal.returns-clause-locator
returns-clause-locator c =
    let t : ℕ = c.args.equations in
    let s : ℕ → ℕ = λ i. get_or c.args.syndromes.now i 0 in
    let first = c.first_kept.ensures in
    subst (λ (xs : List ℕ). IsLocator t s (take (t + 1) xs)) (sym first.3)
    (kept_locator t c.loop-equation.equation first.0 s (is_marked c.loop-equation.kept)
    (vector (t + 1) c.loop-equation.vectors) c.loop-equation.invariant.solves c.loop-equation-test.false first.1
    first.2)
