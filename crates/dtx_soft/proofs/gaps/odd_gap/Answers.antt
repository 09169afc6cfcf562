use Rattle.std.proofs.Common.{arith, rules}
use mir.Syntax.{w16}
use Rattle.std.proofs.lemmas.Int.{ints, to_z-of_z}
use Rattle.dtx_soft.proofs.GapBounds.{odd_small}
use Rattle.dtx_soft.proofs.gaps.odd_gap.Goals as goal

pub pair_gap-requires-clause-shifted : goal.pair_gap-requires-clause-shifted
pair_gap-requires-clause-shifted g c = grind (arith, ints)

pub pair_gap-requires-clause-fits : goal.pair_gap-requires-clause-fits
pair_gap-requires-clause-fits g c =
    let w = g.met.T.Width.wide in
    let a = odd_small g.T.Width.bounds c.args.units.now.scale (g.T.Width.value c.args.symbol) c.args.tie w
    c.requires.units.scale c.requires.symbol c.requires.from c.requires.to in
    rw (
      to_z-of_z w16 c.args.tie (search rules),
      c.requires.units.two_below,
      c.requires.units.four_below,
      c.requires.units.twelve,
    ) (omega (arith, a, w.sums))
