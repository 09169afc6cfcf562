use Rattle.std.proofs.Common.{length, arith}
use Rattle.dtx_spread.proofs.Tiling.{counts_fit, even_room}
use Rattle.dtx_spread.proofs.groups.take_last.Goals as goal

pub take_rows-requires-else-count-eq15-clause-rows :
    goal.take_rows-requires-else-count-eq15-clause-rows
take_rows-requires-else-count-eq15-clause-rows g c = (
  omega (
    arith,
    c.count_at-count.ensures.is,
    counts_fit g.row.B (length c.args.bytes.now) c.args.place 16 c.requires.numbers.0 (omega (arith, c.requires.few)),
  ),
  even_room g.row.B c.args.place g.row.W (length c.args.bytes.now) c.count_at-count.result c.requires.numbers.3
      c.requires.even c.count_at-count.ensures.is,
)
