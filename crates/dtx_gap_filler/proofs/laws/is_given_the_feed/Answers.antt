use Rattle.dtx_adapter.specs.Feed.{feed}
use Rattle.dtx_gap_filler.proofs.Given.{one_life, inside}
use Rattle.dtx_gap_filler.proofs.laws.is_given_the_feed.Goals as goal

pub returns-clause-life : goal.returns-clause-life
returns-clause-life c = λ plan stream t delay first sent got h.
    let p = c.packets_of_a_feed.ensures plan stream h.is_plan h.is_stream in
    one_life plan stream t delay first sent got p h
    (c.gives_all_back.ensures.run (feed plan stream) first sent got h.received h.holds_sync h.slight)
    (c.gives_all_back.ensures.packets (feed plan stream) first sent got h.received h.holds_sync h.slight p)

pub returns-clause-inside : goal.returns-clause-inside
returns-clause-inside c = inside
