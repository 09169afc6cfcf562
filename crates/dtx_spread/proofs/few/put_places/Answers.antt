use Rattle.std.proofs.Common.{◌+◌, ◌-◌, ◌*◌, ◌/◌, ◌∙◌, arith}
use Rattle.dtx_spread.proofs.ShortCalls.{places_put, part_byte}
use Rattle.dtx_spread.proofs.few.put_places.Goals as goal

pub loop-t-preserved : goal.loop-t-preserved
loop-t-preserved g c = λ p r l m o.
    let from = (g.row.B + 15) / 16 - 1 - c.loop-t.t in
    let z = 256 * from + 256 - 256 * from in
    places_put g.row.B from p r c.args.columns.now c.loop-t.rows c.put_over.new.rows
    (λ q k i j n. c.loop-t.invariant q k (omega (arith, i, c.loop-t-test.true)) j n)
    (λ d k i j n. c.put_over.ensures.put d k i j n ∙ c.turned-tile.ensures.turned k d n i
    ∙ c.flat.ensures.bytes d k i n ∙ part_byte from d k z c.args.columns.now (omega arith) i n)
    c.put_over.ensures.others (omega (arith, l, c.loop-t-test.true)) m o
