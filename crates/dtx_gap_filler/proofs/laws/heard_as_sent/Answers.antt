use Rattle.std.specs.Prelude.{slice_range}
use Rattle.dtx_adapter.specs.Feed.{feed}
use Rattle.dtx_coder.specs.Stream.{a53}
use Rattle.dtx_gap_filler.proofs.AsSent.{few_as_sent}
use Rattle.dtx_gap_filler.proofs.laws.heard_as_sent.Goals as goal

pub returns : goal.returns
returns c = λ plan stream t delay first end p u listed time l.
    let f = feed plan stream in
    let received = c.no_damage.ensures.received f first end in
    record {
      is_plan = p;
      is_stream = u;
      listed = listed;
      in_time = time;
      received = received;
      holds_sync = l;
      slight = c.no_damage.ensures.slight f first (slice_range (a53 f) first end) received
          (c.packets_of_a_feed.ensures plan stream p u);
      few_wrong_signs = few_as_sent f first end l;
    }
