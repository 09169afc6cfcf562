use Rattle.std.proofs.Common.{arith}
use Rattle.std.proofs.lemmas.Int.{ints, clamps}
use Rattle.dtx_soft.specs.Gaps.{gap_of, squares_of}
use Rattle.dtx_soft.proofs.GapBounds.{sums_bounded, sums_of}
use Rattle.dtx_soft.proofs.gaps.gap_before.Goals as goal

pub plus-requires : goal.plus-requires
plus-requires g c = let w = g.met.T.Width.wide in omega (arith, ints)

pub plus-requires-2 : goal.plus-requires-2
plus-requires-2 g c = let w = g.met.T.Width.wide in omega (arith, ints)

pub plus-step-requires : goal.plus-step-requires
plus-step-requires g c = let w = g.met.T.Width.wide in omega (arith, ints)

pub minus-requires : goal.minus-requires
minus-requires g c = let w = g.met.T.Width.wide in omega (arith, ints, clamps)

pub minus-requires-2 : goal.minus-requires-2
minus-requires-2 g c = let w = g.met.T.Width.wide in omega (arith, ints, clamps)

pub minus-requires-3 : goal.minus-requires-3
minus-requires-3 g c = let w = g.met.T.Width.wide in omega (arith, ints, clamps)

-- the sums are within the bounds of the gaps that they are
pub plus-requires-3 : goal.plus-requires-3
plus-requires-3 g c =
    let w = g.met.T.Width.wide in
    let a = (sums_bounded g.T.Width.bounds _ _ _ c.requires.squares c.requires.bounded
    (sums_of (squares_of g.T.Width.value c.args.squares.now) (gap_of g.T.Width.value c.args.gap))).even in
    rw (
      c.plus-step.ensures,
      c.minus.ensures,
      c.lesser-even_sum.ensures,
      c.lesser-odd_sum.ensures,
      c.plus.ensures,
      c.plus-2.ensures,
      c.number-none.ensures,
    ) (omega (arith, a, w.sums))

pub plus-requires-4 : goal.plus-requires-4
plus-requires-4 g c =
    let w = g.met.T.Width.wide in
    let a = (sums_bounded g.T.Width.bounds _ _ _ c.requires.squares c.requires.bounded
    (sums_of (squares_of g.T.Width.value c.args.squares.now) (gap_of g.T.Width.value c.args.gap))).odd in
    rw (c.plus-step.ensures, c.minus-2.ensures, c.lesser-even_least.ensures, c.lesser-odd_least.ensures)
    (omega (arith, a, w.sums))
