use Rattle.std.specs.Prelude.{[], slice_range}
use Rattle.dtx_adapter.specs.Feed.{feed}
use Rattle.dtx_chain.specs.Damage.{packet_behind}
use Rattle.dtx_gap_filler.specs.Heard.{heard_to}
use Rattle.dtx_recipes.specs.SymbolFile.{file_segments}
use Rattle.dtx_network.specs.Headline.{stretch_of}
use Rattle.dtx_network.specs.Orders.{presets}
use Rattle.dtx_repeated_feed.proofs.RepeatedFeed.{by_words, done_with, some_looks}
use Rattle.dtx_repeated_feed.proofs.laws.a_heard_feed_is_repeated.Goals as goal

pub returns-clause-listed : goal.returns-clause-listed
returns-clause-listed c = λ plan stream t delay first k sent names file few hears listing.
    let got = file_segments file in
    let f = feed plan stream in
    let end = heard_to first got in
    done_with names t.address delay file (stretch_of f k end) (presets plan t.offset 0 f k end)
    (c.repeats.ensures.segments plan stream t delay first k sent got hears listing)
    (c.repeats.ensures.lines plan stream t delay first k sent got hears listing)
    (c.all_is_repeated.ensures.done t.address delay names file few
    (some_looks file (slice_range f (packet_behind first) end)
    (c.is_given_the_feed.ensures.life plan stream t delay first sent got hears)))

pub returns-clause-unlisted : goal.returns-clause-unlisted
returns-clause-unlisted c = λ plan stream t delay first sent names file few hears none.
    let got = file_segments file in
    done_with names t.address delay file [] []
    (c.repeats.ensures.no_segments plan stream t delay first sent got hears none)
    (c.repeats.ensures.no_lines plan stream t delay first sent got hears none)
    (c.all_is_repeated.ensures.done t.address delay names file few
    (some_looks file (slice_range (feed plan stream) (packet_behind first) (heard_to first got))
    (c.is_given_the_feed.ensures.life plan stream t delay first sent got hears)))

pub returns-clause-words : goal.returns-clause-words
returns-clause-words c = by_words
