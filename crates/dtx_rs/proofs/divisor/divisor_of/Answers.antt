use Rattle.std.proofs.Common.{refl, ap, ◌∙◌, sym, arith, add-one}
use Rattle.dtx_galois.specs.Field.{mul, pow}
use Rattle.dtx_rs.proofs.Products.{generator_more}
use Rattle.dtx_rs.proofs.divisor.divisor_of.Goals as goal

pub loop-degree-init : goal.loop-degree-init
unfolding pow
loop-degree-init c = record { divisor = refl; root = refl }

pub loop-degree-preserved : goal.loop-degree-preserved
unfolding pow
loop-degree-preserved c =
    let i = c.loop-degree.invariant in
    record {
      divisor = generator_more c.loop-degree.degree 256 c.loop-degree.divisor c.multiply.new.divisor
          c.loop-degree.root.0 (omega arith) i.divisor i.root c.multiply.ensures;
      root = c.mul-root.ensures ∙ ap (mul 2) i.root ∙ ap (pow 2) (sym (add-one c.loop-degree.degree));
    }
