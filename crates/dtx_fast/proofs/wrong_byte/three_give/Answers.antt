use Rattle.std.proofs.Common.{◌≡◌, ◌+◌, ◌*◌, ◌∙◌, ap₂, bit_xor, get_or, arith, refl}
use Rattle.dtx_galois.specs.Field.{pow}
use borrow.Author.Count.{below_more}
use Rattle.dtx_fast.proofs.wrong_byte.three_give.Goals as goal

pub returns : goal.returns
returns c = (λ _ i l. c.loop-i.invariant i (omega (arith, l, c.loop-i-test.false)), λ _. refl)

pub loop-i-preserved : goal.loop-i-preserved
loop-i-preserved c =
    let first = c.args.first in
    let second = c.args.second in
    let third = c.args.third in
    below_more (λ q. get_or c.args.syndromes.now q 0 ≡ bit_xor
    (bit_xor (pow 2 (first.error + first.place * q)) (pow 2 (second.error + second.place * q)))
    (pow 2 (third.error + third.place * q))) c.loop-i.i c.loop-i.invariant
    (c.if-syndromes-i.false
    ∙ ap₂ bit_xor (ap₂ bit_xor c.syndrome.ensures c.syndrome-in-loop-i.ensures) c.syndrome-in-loop-i-2.ensures)
