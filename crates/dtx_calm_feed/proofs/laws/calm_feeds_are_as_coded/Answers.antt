use Rattle.std.specs.Prelude.{drop}
use Rattle.dtx_calm_feed.proofs.Coded.{coded_segments, coded_states}
use Rattle.dtx_calm_feed.proofs.Noted.{never_slips}
use Rattle.dtx_calm_feed.proofs.laws.calm_feeds_are_as_coded.Goals as goal

pub returns-clause-states : goal.returns-clause-states
returns-clause-states c = λ packets m g first ops calm z is_first told counts inside.
    coded_states packets m g first ops (never_slips (drop m packets) calm) z is_first told counts inside

pub returns-clause-segments : goal.returns-clause-segments
returns-clause-segments c = coded_segments
