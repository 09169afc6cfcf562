use Rattle.std.proofs.Common.{pos, ◌≤ℤ◌, arith}
use Rattle.std.proofs.lemmas.Int.{ints}
use Rattle.dtx_soft.proofs.GapBounds.{across_small, odd_small}
use Rattle.dtx_soft.proofs.gaps.across_gap.Goals as goal

pub plus-twice-requires : goal.plus-twice-requires
plus-twice-requires g c = let w = g.met.T.Width.wide in omega (arith, ints)

pub minus-requires : goal.minus-requires
minus-requires g c =
    let w = g.met.T.Width.wide in
    let none : pos 0 ≤ℤ pos 0 = omega (arith, ints) in
    let one : pos 0 ≤ℤ pos 1 = omega (arith, ints) in
    let a = odd_small g.T.Width.bounds c.args.units.now.scale (g.T.Width.value c.args.symbol) (pos 0) w
    c.requires.units.scale c.requires.symbol none one in
    rw c.requires.odd (omega (arith, ints, a))

pub plus-requires-2 : goal.plus-requires-2
plus-requires-2 g c =
    let a = across_small g.T.Width.bounds c.args.units.now.scale (g.T.Width.value c.args.symbol) g.met.T.Width.wide
    c.requires.units.scale c.requires.symbol in
    rw (
      c.minus.ensures,
      c.lesser-near.ensures,
      c.greater.ensures,
      c.plus.ensures,
      c.plus-twice.ensures,
      c.requires.odd,
      c.requires.units.four_below,
      c.requires.units.four,
    ) (omega (arith, a, g.met.T.Width.wide.sums))
