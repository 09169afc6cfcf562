use Rattle.std.proofs.Common.{◌≡◌, ℕ, ◌<◌, List, sym, subst, arith, get_or}
use Rattle.dtx_fast.specs.Recurrence.{IsLeast}
use Rattle.dtx_fast.proofs.StageLemmas.{stage_recurs}
use Rattle.dtx_fast.proofs.recurrence.find_recurrence.Goals as goal

pub loop-n-init : goal.loop-n-init
loop-n-init c =
    record {
      stage = c.new-stage.ensures.stage (λ i. get_or c.args.syndromes.now i 0);
      half = omega (arith, c.new-stage.ensures.empty);
    }

pub returns-then-not-take-clause-none : goal.returns-then-not-take-clause-none
returns-then-not-take-clause-none c k b r =
    c.take.ensures.refused c.if-not-take.true k b
    (record { newest = r.newest; next = λ i p q. r.next i p (omega arith) })

pub returns-clause-some : goal.returns-clause-some
returns-clause-some c =
    let stage = c.loop-n.stage in
    let s : ℕ → ℕ = λ i. get_or c.args.syndromes.now i 0 in
    let cs : List ℕ → ℕ → ℕ = λ xs i. get_or xs i 0 in
    let n : c.loop-n.n ≡ c.args.count = omega arith in
    let order : stage.order ≡ c.new.result.order = sym c.new.ensures.order in (
      omega (arith, c.loop-n.invariant.half, order),
      λ k. subst (λ xs. get_or xs k 0 < 256) (sym c.new.ensures.coefficients) (c.new.ensures.bytes k),
      rw c.new.ensures.coefficients (rw (← order)
          (rw (← n)
          (stage_recurs c.loop-n.n stage.order stage.gap stage.inverse.0 s (cs stage.coefficients) (cs stage.before)
          c.loop-n.invariant.stage))),
      subst (λ l. IsLeast c.args.count l s) order
          (subst (λ m. IsLeast m c.loop-n.stage.order s) n c.loop-n.invariant.stage.least),
    )
