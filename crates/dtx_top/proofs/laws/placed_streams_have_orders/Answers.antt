use Rattle.std.proofs.Common.{◌∙◌}
use Rattle.dtx_recipes.specs.Place.{placed}
use Rattle.dtx_top.proofs.PlacedStream.{late_in_field, placed_stream}
use Rattle.dtx_top.proofs.laws.placed_streams_have_orders.Goals as goal

pub returns-clause-stream : goal.returns-clause-stream
returns-clause-stream c = λ stream s.
    let stays = c.what_stays.ensures in
    placed_stream stream (stays.count stream) (stays.lengths stream) (stays.lower stream) s

pub returns-clause-orders : goal.returns-clause-orders
returns-clause-orders c = λ plan stream field p s room.
    let stays = c.what_stays.ensures in
    let after = placed_stream stream (stays.count stream) (stays.lengths stream) (stays.lower stream) s in
    let found = late_in_field (placed stream) field (c.fields_with_one.ensures stream field ∙ room) in (
      found.0,
      found.1,
      found.2,
      found.3,
      λ mark. c.late_placeholders_are_orders.ensures.later plan (placed stream) found.0 mark p after found.2 found.3,
    )
