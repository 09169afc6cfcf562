use Rattle.dtx_recipes.specs.Adapt.{feed_bytes}
use Rattle.dtx_packets.specs.Packets.{packets_of}
use Rattle.dtx_file_laws.proofs.BothEnds.{holds_bytes}
use Rattle.dtx_file_laws.proofs.FeedEnds.{feed_is, numbers_of}
use Rattle.dtx_file_laws.proofs.OwnSymbols.{sends_own, studio}
use Rattle.dtx_file_laws.proofs.laws.single_frequency.run_of_a_transmitter.Goals as goal

pub returns : goal.returns
returns g c = λ plan_name input feed sent plan_bytes stream fed symbols plan t copy output log k adapt code excite
    feed_apart apart says few listed in_time first planned there adapted coded left_feed left_symbols here done.
    let are = holds_bytes (g.S.Shelf.files c.args.shelves.now.0) input stream c.known.ensures there in
    let is_plan = c.plans_that_are_read.ensures plan_bytes plan says in
    let numbers = numbers_of plan t is_plan listed in
    let file = feed_bytes plan (packets_of stream) in
    let mid = g.S.Shelf.files c.run_of_adapt-adapted.new.shelf in
    let left = g.S.Shelf.files c.run_of_code-coded.new.shelf in
    let feeds = feed_is plan plan_name input feed plan_bytes stream _ _ mid planned there adapted
    (c.run_of_adapt-adapted.ensures.done plan plan_name input feed plan_bytes stream adapt says) in
    let all = studio plan stream feed sent fed symbols _ mid left feeds feed_apart (λ found. record {
      there = found;
      done = coded;
      files = c.run_of_code-coded.ensures.done feed sent file code;
    }) left_feed left_symbols in
    sends_own (record {
      plan = c.plans_that_are_read.ensures;
      read = c.feed_read_back.ensures.packets;
      one_page = c.listings_of_a_feed.ensures.one_page;
      listed = c.a_feed_is_sent.ensures.listed;
      unlisted = c.a_feed_is_sent.ensures.unlisted;
    })
    c.orders_of_a_feed.ensures.placeholders plan plan_bytes stream feed fed symbols left says few are all.feeds
    left_feed all.coded t (record { listed = listed; in_time = in_time }) k first copy output log _ _ _
    (record {
      apart = apart;
      there = here;
      done = done;
      files = c.run_of_excite-excited.ensures.done t.address t.delay copy output log fed excite numbers.address
          numbers.delay;
    })
