use Rattle.std.proofs.Common.{◌∙◌, ◌-◌, ℕ, List, length, ap, arith, get_or, bit_xor}
use Rattle.std.proofs.lemmas.List.{get_or-set_other, length-set}
use Rattle.dtx_fast.specs.Recurrence.{error_value}
use Rattle.dtx_fast.proofs.RepairLemmas.{patched_more}
use Rattle.dtx_fast.proofs.repair.patch.Goals as goal

pub loop-exponent-preserved : goal.loop-exponent-preserved
loop-exponent-preserved c =
    let word : List ℕ = c.args.word.now in
    let now : List ℕ = c.loop-exponent.word in
    let n : ℕ = length word in
    let e : ℕ = c.loop-exponent.exponent in
    let x : ℕ = c.error_value.result.0 in
    let cs : ℕ → ℕ = λ i. get_or c.args.found.now.coefficients i 0 in
    let s : ℕ → ℕ = λ i. get_or c.args.syndromes.now i 0 in
    let kept = c.loop-exponent.invariant in
    let next = c.next_zero-exponent-in-loop-exponent.ensures in
    record {
      done = patched_more n c.args.found.now.order e c.next_zero-exponent-in-loop-exponent.result x cs s word now
          c.args.walk.now kept.long c.loop-exponent-test.true c.requires.walk (kept.zero c.loop-exponent-test.true)
          next.passed (c.error_value.ensures ∙ ap (error_value c.args.found.now.order cs s) c.power_at.ensures)
          kept.done kept.left;
      left = λ p l. get_or-set_other now (n - 1 - e) p (bit_xor (get_or now (n - 1 - e) 0) x) 0
          (λ same. omega (arith, next.from))
          ∙ kept.left p (omega (arith, l, next.from));
      zero = next.zero;
      long = length-set now (n - 1 - e) (bit_xor (get_or now (n - 1 - e) 0) x) ∙ kept.long;
    }

pub returns-clause-repaired : goal.returns-clause-repaired
returns-clause-repaired c = λ p l. c.loop-exponent.invariant.done p l (omega (arith, c.loop-exponent-test.false))
