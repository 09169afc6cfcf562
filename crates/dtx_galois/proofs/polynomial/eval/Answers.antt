use Rattle.std.proofs.Common.{ℕ, ◌∙◌, ap, arith, refl, sym, get_or, bit_xor}
use Rattle.dtx_galois.specs.Field.{mul, value}
use Rattle.dtx_galois.proofs.ValuesLemmas.{value_more}
use Rattle.dtx_galois.proofs.polynomial.eval.Goals as goal

pub loop-byte-init : goal.loop-byte-init
unfolding value
loop-byte-init c = refl

pub loop-byte-preserved : goal.loop-byte-preserved
loop-byte-preserved c =
    let i = c.loop-byte.byte-index in
    c.add-sum.ensures ∙ ap (λ (x : ℕ). bit_xor x (get_or c.args.word.now i 0)) (c.mul.ensures
    ∙ ap (λ (x : ℕ). mul x c.args.at.0) c.loop-byte.invariant)
    ∙ sym (value_more c.args.word.now i c.args.at.0 c.loop-byte-test.true (omega (arith, c.type_inv.word i)))
