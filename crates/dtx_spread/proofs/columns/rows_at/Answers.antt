use Rattle.std.proofs.Common.{◌+◌, ◌*◌, length, get_or, ◌∙◌, arith}
use Rattle.dtx_spread.proofs.Filled.{filled_more, long_more}
use Rattle.dtx_spread.proofs.Strips.{row_byte, row_room}
use Rattle.dtx_spread.proofs.columns.rows_at.Goals as goal

pub loop-r-preserved : goal.loop-r-preserved
loop-r-preserved g c =
    let h = c.loop-r.invariant in record {
      filled = filled_more c.loop-r.r g.row.W (λ r k. get_or c.args.bytes.now (c.args.place + k + r * g.row.B) 0)
          c.loop-r.rows c.front.result (omega (arith, c.loop-r-test.true, c.requires.rows.0)) h.filled
          c.front.ensures.long
          (λ k l. c.front.ensures.front k l ∙ row_byte g.row.B g.row.W c.args.place c.loop-r.r k c.args.bytes.now l
          (row_room g.row.B g.row.W c.args.place c.loop-r.r (length c.args.bytes.now) c.args.count c.requires.rows.1
          c.loop-r-test.true));
      long = λ i l. long_more c.loop-r.r i c.loop-r.rows c.front.result
          (omega (arith, c.loop-r-test.true, c.requires.rows.0, h.filled.count)) c.front.ensures.long (h.long i l);
    }
