use Rattle.std.specs.Prelude.{◌+◌, []}
use Rattle.dtx_adapter.specs.Feed.{feed}
use Rattle.dtx_network.specs.Headline.{stretch_of}
use Rattle.dtx_network.specs.Orders.{presets}
use Rattle.dtx_file_laws.proofs.Excited.{excited_with}
use Rattle.dtx_file_laws.proofs.laws.exciting.a_feed_is_sent.Goals as goal

pub returns-clause-listed : goal.returns-clause-listed
returns-clause-listed c = λ plan stream t delay earlier mark n k names file few fed holds listing.
    excited_with names t.address delay file _ few holds (stretch_of (feed plan stream) k (mark + n))
    (presets plan t.offset 0 (feed plan stream) k (mark + n))
    (c.from_a_mark.ensures.segments plan stream t delay earlier mark n k fed listing)
    (c.from_a_mark.ensures.lines plan stream t delay earlier mark n k fed listing)

pub returns-clause-unlisted : goal.returns-clause-unlisted
returns-clause-unlisted c = λ plan stream t delay earlier mark n names file few fed holds none.
    excited_with names t.address delay file _ few holds [] []
    (c.from_a_mark.ensures.no_segments plan stream t delay earlier mark n fed none)
    (c.from_a_mark.ensures.no_lines plan stream t delay earlier mark n fed none)
