use Rattle.std.proofs.Common.{◌≡◌, ℕ, ◌<◌, List, get_or, bit_xor, refl, sym, ap, ap₂, ◌∙◌, subst, arith}
use Rattle.std.proofs.lemmas.List.{take_all}
use Rattle.std.specs.Int.Bits.{xor_lt}
use Rattle.dtx_galois.specs.Field.{mul, value, sums}
use Rattle.dtx_galois.proofs.ValuesLemmas.{value_more}
use Rattle.dtx_galois.proofs.WordsLemmas.{length_sums}
use Rattle.dtx_laws.proofs.PartsLemmas.{sums_at}
use Rattle.dtx_laws.proofs.correcting.syndromes.value_of_sum.Goals as goal

pub loop-i-init : goal.loop-i-init
unfolding value
loop-i-init c = refl

pub loop-i-preserved : goal.loop-i-preserved
loop-i-preserved c =
    let i : ℕ = c.loop-i.i in
    let word : List ℕ = c.args.word.now in
    let other : List ℕ = c.args.other.now in
    let at_i : get_or (sums word other) i 0 ≡ bit_xor (get_or word i 0) (get_or other i 0) =
    sums_at word other i c.loop-i-test.true (omega (arith, c.requires, c.loop-i-test.true)) in
    c.add-sum.ensures ∙ ap₂ bit_xor (c.mul.ensures ∙ ap (λ (x : ℕ). mul x c.args.at.0) c.loop-i.invariant) (sym at_i)
    ∙ sym (value_more (sums word other) i c.args.at.0 (omega (arith, length_sums word other, c.loop-i-test.true))
    (subst (λ (x : ℕ). x < 256) (sym at_i) (xor_lt 8 (get_or word i 0) (get_or other i 0)
    (omega (arith, c.type_inv.word i)) (omega (arith, c.type_inv.other i)))))

pub returns : goal.returns
returns c =
    c.loop-i.invariant
    ∙ ap (λ xs. value xs c.args.at.0)
    (take_all c.loop-i.i (sums c.args.word.now c.args.other.now)
    (omega (arith, length_sums c.args.word.now c.args.other.now, c.loop-i-test.false)))
