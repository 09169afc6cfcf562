use Rattle.std.proofs.Common.{◌*◌, ◌+◌, ◌-◌, ◌/◌, ◌≡◌, length, take, drop, refl, arith}
use Rattle.dtx_spread.proofs.Strips.{tile_taken}
use Rattle.dtx_spread.proofs.Tiling.{tile_fits, is_tiled, even_behind, all_taken}
use Rattle.dtx_spread.proofs.groups.gather.Goals as goal

pub loop-t-preserved : goal.loop-t-preserved
loop-t-preserved g c = λ n k l m.
    let t = c.loop-t.t in
    tile_taken g.row.B g.row.W c.args.place t n k (t * 16 * g.row.B + 16 * g.row.B - t * 16 * g.row.B)
    c.args.bytes.now c.loop-t.columns c.take_rows.new.columns c.requires.numbers.3
    (tile_fits g.row.B (length c.args.bytes.now) t c.requires.numbers.0 c.requires.room c.loop-t-test.true).0
    c.loop-t.invariant c.take_rows.ensures.taken c.take_rows.ensures.others (omega arith) l m

pub take_last-requires-clause-even : goal.take_last-requires-clause-even
take_last-requires-clause-even g c =
    let n = length c.args.bytes.now in
    even_behind g.row.B c.args.place g.row.W n c.args.bytes.now c.requires.numbers.0 refl
    (is_tiled g.row.B n c.requires.numbers.0 c.requires.room) c.requires.even

pub returns : goal.returns
returns g c = λ n k l m.
    let len = length c.args.bytes.now in
    let at = len / (16 * g.row.B) * 16 * g.row.B in
    let e : c.loop-t.t ≡ len / (16 * g.row.B) = omega (arith, c.loop-t.auto.t-end) in
    all_taken g.row.B g.row.W c.args.place (len - at) n k c.args.bytes.now c.loop-t.columns c.take_last.new.columns
    (take (len - at) (drop at c.args.bytes.now)) c.requires.numbers.0 c.requires.numbers.3
    (is_tiled g.row.B len c.requires.numbers.0 c.requires.room) c.requires.even refl refl
    (λ d r i j. c.loop-t.invariant d r i (omega (arith, e, j))) c.take_last.ensures.taken c.take_last.ensures.others l m
