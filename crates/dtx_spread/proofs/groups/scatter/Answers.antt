use Rattle.std.proofs.Common.{◌≤◌, ◌*◌, ◌+◌, ◌-◌, ◌/◌, ◌≡◌, length, take, drop, refl, ◌∙◌, arith}
use Rattle.std.proofs.lemmas.List.{length-take-le, length-drop}
use Rattle.dtx_spread.proofs.Strips.{tile_put, tile_elsewhere}
use Rattle.dtx_spread.proofs.Tiling.{tile_fits, IsTiled, is_tiled, even_behind, all_put}
use Rattle.dtx_spread.proofs.groups.scatter.Goals as goal

pub loop-t-preserved : goal.loop-t-preserved
loop-t-preserved g c =
    let t = c.loop-t.t in
    let h = c.loop-t.invariant in
    let z = t * 16 * g.row.B + 16 * g.row.B - t * 16 * g.row.B in
    let fits = tile_fits g.row.B (length c.args.bytes.now) t c.requires.numbers.0 c.requires.room c.loop-t-test.true in
    let within : t * 16 * g.row.B ≤ length c.loop-t.bytes = omega (arith, fits.1, c.loop-t.auto.bytes) in
    let long : length c.put_rows.new.bytes ≡ z =
    c.put_rows.auto.bytes
    ∙ length-take-le z (drop (t * 16 * g.row.B) c.loop-t.bytes)
    (omega (arith, length-drop (t * 16 * g.row.B) c.loop-t.bytes, fits.1, c.loop-t.auto.bytes)) in
    record {
      put = λ n k l m. tile_put g.row.B g.row.W c.args.place t n k z c.args.columns.now c.loop-t.bytes
          c.put_rows.new.bytes c.requires.numbers.3 within (long ∙ omega arith) h.put c.put_rows.ensures.put l m;
      others = λ i o. tile_elsewhere g.row.B g.row.W c.args.place t z i c.loop-t.bytes c.put_rows.new.bytes
          c.requires.numbers.0 within long c.put_rows.ensures.others o ∙ h.others i o;
    }

pub put_last-requires-clause-even : goal.put_last-requires-clause-even
put_last-requires-clause-even g c =
    let n = length c.args.bytes.now in
    even_behind g.row.B c.args.place g.row.W n c.loop-t.bytes c.requires.numbers.0 c.loop-t.auto.bytes
    (is_tiled g.row.B n c.requires.numbers.0 c.requires.room) c.requires.even

pub returns-clause-put : goal.returns-clause-put
returns-clause-put g c = λ n k l m.
    let len = length c.args.bytes.now in
    let at = len / (16 * g.row.B) * 16 * g.row.B in
    let e : c.loop-t.t ≡ len / (16 * g.row.B) = omega (arith, c.loop-t.auto.t-end) in
    let z = length c.loop-t.bytes - at in
    all_put g.row.B g.row.W c.args.place z n k len c.args.columns.now c.loop-t.bytes
    (take z (drop at c.loop-t.bytes)) c.put_last.new.bytes c.requires.numbers.0 c.requires.numbers.3 c.loop-t.auto.bytes
    (is_tiled g.row.B len c.requires.numbers.0 c.requires.room) c.requires.even
    (omega (arith, c.loop-t.auto.bytes)) refl c.put_last.auto.bytes
    (λ d r i j. c.loop-t.invariant.put d r i (omega (arith, e, j))) c.put_last.ensures.put l m

pub returns-clause-others : goal.returns-clause-others
returns-clause-others g c = λ i o.
    let len = length c.args.bytes.now in
    let tiles = len / (16 * g.row.B) in
    let at = tiles * 16 * g.row.B in
    let z = length c.loop-t.bytes - at in
    let t : IsTiled g.row.B len = is_tiled g.row.B len c.requires.numbers.0 c.requires.room in
    tile_elsewhere g.row.B g.row.W c.args.place tiles z i c.loop-t.bytes c.put_last.new.bytes c.requires.numbers.0
    (omega (arith, t.within, c.loop-t.auto.bytes))
    (c.put_last.auto.bytes
    ∙ length-take-le z (drop at c.loop-t.bytes) (omega (arith, length-drop at c.loop-t.bytes)))
    c.put_last.ensures.others o
    ∙ c.loop-t.invariant.others i o
