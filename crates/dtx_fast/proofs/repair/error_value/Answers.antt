use Rattle.std.proofs.Common.{◌∙◌, ℕ, ◌-◌, refl, sym, ap, ap₂, bit_xor, get_or, add-one, arith, ◌≡◌}
use Rattle.dtx_galois.specs.Field.{mul, pow}
use Rattle.dtx_laws.specs.Locator.{low_value}
use Rattle.dtx_fast.specs.Recurrence.{discrepancy, quotient, turned, error_value}
use Rattle.dtx_fast.proofs.RecurrenceLemmas.{discrepancy_next}
use Rattle.dtx_fast.proofs.repair.error_value.Goals as goal

pub loop-k-init : goal.loop-k-init
unfolding discrepancy quotient turned
loop-k-init c = record { next = refl; sum = refl; value = refl }

pub loop-k-preserved : goal.loop-k-preserved
unfolding quotient turned
loop-k-preserved c =
    let k : ℕ = c.loop-k.k in
    let x : ℕ = c.args.at.0 in
    let cs : ℕ → ℕ = λ i. get_or c.args.coefficients.now i 0 in
    let s : ℕ → ℕ = λ i. get_or c.args.syndromes.now i 0 in
    record {
      next = c.add-quotient.ensures
          ∙ ap₂ bit_xor (c.mul-in-loop-k-2.ensures ∙ ap (λ (q : ℕ). mul q x) c.loop-k.invariant.next)
          (ap cs (add-one k))
          ∙ sym (ap (quotient x cs) (add-one k));
      sum = c.add-sum.ensures
          ∙ ap₂ bit_xor c.loop-k.invariant.sum
          (c.mul.ensures ∙ ap (λ (q : ℕ). mul q (s (c.args.order - 1 - k))) c.loop-k.invariant.next)
          ∙ sym (discrepancy_next k (quotient x cs) s (c.args.order - 1));
      value = c.add-value.ensures
          ∙ ap₂ bit_xor c.loop-k.invariant.next (c.mul-in-loop-k.ensures ∙ ap (mul x) c.loop-k.invariant.value)
          ∙ sym (ap (λ w. low_value (turned w (quotient x cs)) x) (add-one k));
    }

pub returns : goal.returns
unfolding error_value
returns c =
    let l : ℕ = c.args.order in
    let x : ℕ = c.args.at.0 in
    let cs : ℕ → ℕ = λ i. get_or c.args.coefficients.now i 0 in
    let s : ℕ → ℕ = λ i. get_or c.args.syndromes.now i 0 in
    let e : c.loop-k.k ≡ c.args.order = omega arith in
    c.mul-2.ensures
    ∙ ap₂ mul (c.loop-k.invariant.sum ∙ ap (λ w. discrepancy w (quotient x cs) s (l - 1)) e)
    (c.pow.ensures
    ∙ ap (λ (v : ℕ). pow v 254) (c.loop-k.invariant.value ∙ ap (λ w. low_value (turned w (quotient x cs)) x) e))
