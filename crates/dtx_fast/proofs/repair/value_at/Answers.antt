use Rattle.std.proofs.Common.{◌∙◌, refl, sym, ap, ap₂, bit_xor, get_or, add-one}
use Rattle.dtx_galois.specs.Field.{mul, pow}
use Rattle.dtx_fast.specs.Recurrence.{walked}
use Rattle.dtx_fast.proofs.repair.value_at.Goals as goal

pub loop-k-init : goal.loop-k-init
unfolding walked pow
loop-k-init c = record { sum = refl; power = refl }

pub loop-k-preserved : goal.loop-k-preserved
unfolding walked pow
loop-k-preserved c = record {
  sum = c.add-sum.ensures ∙ ap₂ bit_xor c.loop-k.invariant.sum (c.mul.ensures
      ∙ ap (mul (get_or c.args.found.now.coefficients c.loop-k.k 0)) c.loop-k.invariant.power)
      ∙ sym (ap (λ w. walked w (λ i. get_or c.args.found.now.coefficients i 0) c.args.at.0) (add-one c.loop-k.k));
  power = c.mul-power.ensures ∙ ap (mul c.args.at.0) c.loop-k.invariant.power
      ∙ sym (ap (pow c.args.at.0) (add-one c.loop-k.k));
}
