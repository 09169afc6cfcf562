use Rattle.dtx_trellis.proofs.LaneRoundsLemmas.{moved_nibbles, rounds_coded}
use Rattle.dtx_trellis.proofs.walk.two_rounds.Goals as goal

pub store-requires-2-clause-lanes : goal.store-requires-2-clause-lanes
store-requires-2-clause-lanes c = moved_nibbles _ _ _ c.moved_on-behind.ensures c.lower.ensures.nibbles

pub returns-clause-nibbles : goal.returns-clause-nibbles
returns-clause-nibbles c = moved_nibbles _ _ _ c.moved_on-behind.ensures c.lower.ensures.nibbles

pub returns-clause-coded : goal.returns-clause-coded
returns-clause-coded c = λ s r states bytes ready.
    rounds_coded s r c.args.place c.next_place.result c.args.begins_segment states bytes c.args.lanes c.args.pairs
    c.two_pairs-both.result
    c.upper.result c.lower.result c.moved_on-behind.result c.args.symbols.now c.store.new.symbols c.store-2.new.symbols
    ready c.two_pairs-both.ensures.lanes (c.upper.ensures.nibbles, c.upper.ensures.lanes)
    (c.lower.ensures.nibbles, c.lower.ensures.lanes) c.moved_on-behind.ensures
    (c.store.ensures.symbols, c.store.ensures.before) c.next_place.ensures
    (c.store-2.ensures.symbols, c.store-2.ensures.before)
