use Rattle.std.proofs.Common.{length, arith}
use Rattle.dtx_spread.proofs.Tiling.{counts_fit, even_room}
use Rattle.dtx_spread.proofs.groups.put_last.Goals as goal

pub put_rows-requires-else-count-eq15-clause-rows :
    goal.put_rows-requires-else-count-eq15-clause-rows
put_rows-requires-else-count-eq15-clause-rows g c = (
  omega (
    arith,
    c.count_at-count.ensures.is,
    counts_fit g.row.B (length c.args.bytes.now) c.args.place 16 c.requires.numbers.0 (omega (arith, c.requires.few)),
  ),
  even_room g.row.B c.args.place g.row.W (length c.args.bytes.now) c.count_at-count.result c.requires.numbers.3
      c.requires.even c.count_at-count.ensures.is,
)
