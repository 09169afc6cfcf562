use Rattle.std.proofs.Common.{ap, ap₂, ◌+ℤ◌, ◌∙◌, arith}
use Rattle.std.proofs.lemmas.Int.{ints}
use Rattle.dtx_soft.proofs.WrapsLemmas.{read, sum_read}
use mir.Syntax.{w32}
use Rattle.dtx_pins.specs.Told.{if_bit}
use Rattle.dtx_pins.proofs.ToldLanes.{is_bit}
use Rattle.dtx_pins.proofs.told.less_by.Goals as goal

pub overflow_add-result : goal.overflow_add-result
overflow_add-result c =
    let far = is_bit c.args.p 420000000 _ _ c.less_with_z2.result c.if_bit.ensures
    (omega (arith, ints, c.less_with_z2.ensures.from, c.less_with_z2.ensures.to)) c.less_with_z2.ensures.from
    c.less_with_z2.ensures.to in
    omega (arith, ints, far.from, far.to, c.less_beside.ensures.from, c.less_beside.ensures.to)

pub returns-clause-from : goal.returns-clause-from
returns-clause-from c =
    let far = is_bit c.args.p 420000000 _ _ c.less_with_z2.result c.if_bit.ensures
    (omega (arith, ints, c.less_with_z2.ensures.from, c.less_with_z2.ensures.to)) c.less_with_z2.ensures.from
    c.less_with_z2.ensures.to in
    omega (arith, ints, far.from, far.to, c.less_beside.ensures.from, c.less_beside.ensures.to)

pub returns-clause-to : goal.returns-clause-to
returns-clause-to c =
    let far = is_bit c.args.p 420000000 _ _ c.less_with_z2.result c.if_bit.ensures
    (omega (arith, ints, c.less_with_z2.ensures.from, c.less_with_z2.ensures.to)) c.less_with_z2.ensures.from
    c.less_with_z2.ensures.to in
    omega (arith, ints, far.from, far.to, c.less_beside.ensures.from, c.less_beside.ensures.to)

pub returns-clause-less : goal.returns-clause-less
returns-clause-less c =
    let far = is_bit c.args.p 420000000 _ _ c.less_with_z2.result c.if_bit.ensures
    (omega (arith, ints, c.less_with_z2.ensures.from, c.less_with_z2.ensures.to)) c.less_with_z2.ensures.from
    c.less_with_z2.ensures.to in
    sum_read w32 (read w32 c.if_bit.result) (read w32 c.less_beside.result) c.if_bit.result c.less_beside.result
    (omega (arith, ints, far.from, far.to, c.less_beside.ensures.from, c.less_beside.ensures.to))
    (omega (arith, ints, far.from, far.to, c.less_beside.ensures.from, c.less_beside.ensures.to))
    (omega (arith, ints, far.from, far.to, c.less_beside.ensures.from, c.less_beside.ensures.to))
    ∙ ap₂ (λ x y. x +ℤ y) (far.is ∙ ap (if_bit c.args.p) c.less_with_z2.ensures.less) c.less_beside.ensures.less
