use Rattle.dtx_file_laws.proofs.BothEnds.{holds_bytes}
use Rattle.dtx_file_laws.proofs.FeedEnds.{feed_is, numbers_of, same_sent}
use Rattle.dtx_file_laws.proofs.laws.single_frequency.run_of_two_transmitters.Goals as goal

pub returns : goal.returns
returns g c = λ plan_name input feed plan_bytes stream fed plan t u feed_1 out_1 log_1 feed_2 out_2 log_2 adapt excite
    other apart apart_2 says few t_listed t_in_time u_listed u_in_time planned there adapted left here done here_2
    done_2.
    let are = holds_bytes (g.S.Shelf.files c.args.shelves.now.0) input stream c.known.ensures there in
    let is_plan = c.plans_that_are_read.ensures plan_bytes plan says in
    let of_t = numbers_of plan t is_plan t_listed in
    let of_u = numbers_of plan u is_plan u_listed in
    same_sent (record {
      plan = c.plans_that_are_read.ensures;
      read = c.feed_read_back.ensures.packets;
      one_page = c.listings_of_a_feed.ensures.one_page;
      listed = c.a_feed_is_sent.ensures.listed;
      unlisted = c.a_feed_is_sent.ensures.unlisted;
    })
    plan plan_bytes stream fed feed (g.S.Shelf.files c.run_of_adapt-adapted.new.shelf) says few are
    (feed_is plan plan_name input feed plan_bytes stream _ _ _ planned there adapted
    (c.run_of_adapt-adapted.ensures.done plan plan_name input feed plan_bytes stream adapt says))
    left t u (record { listed = t_listed; in_time = t_in_time }) (record { listed = u_listed; in_time = u_in_time })
    feed_1 out_1 log_1 feed_2 out_2 log_2 _ _ _ _ _ _
    (record {
      apart = apart;
      there = here;
      done = done;
      files = c.run_of_excite-first.ensures.done t.address t.delay feed_1 out_1 log_1 fed excite of_t.address
          of_t.delay;
    })
    (record {
      apart = apart_2;
      there = here_2;
      done = done_2;
      files = c.run_of_excite-second.ensures.done u.address u.delay feed_2 out_2 log_2 fed other of_u.address
          of_u.delay;
    })
