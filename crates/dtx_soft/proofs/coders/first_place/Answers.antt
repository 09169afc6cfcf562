use Rattle.std.proofs.Common.{◌≡◌, ◌+◌, ◌*◌, ◌/◌, arith}
use Rattle.dtx_slice.specs.Unrolled.{symbol_place}
use Rattle.dtx_soft.proofs.coders.first_place.Goals as goal

pub returns-clause-place : goal.returns-clause-place
unfolding symbol_place
returns-clause-place c r l =
    (let h = c.requires in
    let e : (69 * c.args.i + r) / 69 ≡ c.args.i = omega arith in
    omega arith)
