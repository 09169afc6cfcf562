use Rattle.std.proofs.Common.{◌+◌, ◌-◌, ◌*◌, ◌∙◌, drop, arith}
use Rattle.std.proofs.lemmas.List.{length-take-le, length-drop}
use Rattle.dtx_spread.proofs.ShortCalls.{places_taken}
use Rattle.dtx_spread.proofs.few.take_places.Goals as goal

pub loop-t-preserved : goal.loop-t-preserved
loop-t-preserved g c = λ p r l m.
    let t = c.loop-t.t in
    let z = 256 * t + 256 - 256 * t in
    places_taken g.row.B t p r z c.args.rows.now c.loop-t.columns c.put_flat.new.bytes
    (omega (arith, c.loop-t.auto.columns, c.requires.room.1, c.requires.numbers.1, c.loop-t-test.true))
    (c.put_flat.auto.bytes
    ∙ length-take-le z (drop (256 * t) c.loop-t.columns)
    (omega (
      arith,
      length-drop (256 * t) c.loop-t.columns,
      c.loop-t.auto.columns,
      c.requires.room.1,
      c.requires.numbers.1,
      c.loop-t-test.true,
    )) ∙ omega arith)
    c.loop-t.invariant
    (λ d k i j. c.put_flat.ensures d k i j ∙ c.turned-tile.ensures.turned d k i j ∙ c.rows_at.ensures.rows k d j i) l m

pub returns : goal.returns
returns g c = λ p r l m. c.loop-t.invariant p r (omega (arith, l, c.loop-t.auto.t-end)) m
