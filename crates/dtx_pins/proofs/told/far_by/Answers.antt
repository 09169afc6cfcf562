use Rattle.std.proofs.Common.{◌*◌, ap, ◌∙◌, arith, rules}
use mir.Syntax.{w16}
use Rattle.std.proofs.lemmas.Int.{ints, to_z-of_z}
use Rattle.dtx_pins.specs.Told.{signed}
use Rattle.dtx_pins.proofs.ToldLanes.{is_signed}
use Rattle.dtx_pins.proofs.told.far_by.Goals as goal

pub overflow_add-symbol-2 : goal.overflow_add-symbol-2
overflow_add-symbol-2 c =
    let a = is_signed c.args.x1 (2 * c.args.scale) _ _ c.signed-level.ensures.signed (omega (arith, ints)) in
    let b = is_signed c.args.q1 c.args.scale _ _ c.signed.ensures.signed (omega (arith, ints)) in
    omega (arith, ints, c.ranges.symbol, a.from, a.to, b.from, b.to)

pub signed-requires-2-clause-from : goal.signed-requires-2-clause-from
signed-requires-2-clause-from c =
    let a = is_signed c.args.x1 (2 * c.args.scale) _ _ c.signed-level.ensures.signed (omega (arith, ints)) in
    let b = is_signed c.args.q1 c.args.scale _ _ c.signed.ensures.signed (omega (arith, ints)) in
    omega (arith, ints, c.ranges.symbol, a.from, a.to, b.from, b.to)

pub signed-requires-2-clause-to : goal.signed-requires-2-clause-to
signed-requires-2-clause-to c =
    let a = is_signed c.args.x1 (2 * c.args.scale) _ _ c.signed-level.ensures.signed (omega (arith, ints)) in
    let b = is_signed c.args.q1 c.args.scale _ _ c.signed.ensures.signed (omega (arith, ints)) in
    omega (arith, ints, c.ranges.symbol, a.from, a.to, b.from, b.to)

pub returns-clause-far : goal.returns-clause-far
returns-clause-far c =
    let a = is_signed c.args.x1 (2 * c.args.scale) _ _ c.signed-level.ensures.signed (omega (arith, ints)) in
    let b = is_signed c.args.q1 c.args.scale _ _ c.signed.ensures.signed (omega (arith, ints)) in
    to_z-of_z w16 c.signed-2.result (search rules)
    ∙ c.signed-2.ensures.signed
    ∙ ap (signed c.args.z2) (omega (arith, ints, c.ranges.symbol, a.is, a.from, a.to, b.is, b.from, b.to))

pub returns-clause-from : goal.returns-clause-from
returns-clause-from c = omega (arith, ints, c.signed-2.ensures.from, c.signed-2.ensures.to)

pub returns-clause-to : goal.returns-clause-to
returns-clause-to c = omega (arith, ints, c.signed-2.ensures.from, c.signed-2.ensures.to)
