use Rattle.std.proofs.Common.{refl}
use Rattle.dtx_trellis.specs.Trellis.{byte_place, group_place}
use Rattle.dtx_rounds.specs.Known.{byte_at_step}
use Rattle.dtx_rounds.proofs.laws.first_bytes.Goals as goal

pub returns-clause-segment_0 : goal.returns-clause-segment_0
unfolding byte_at_step byte_place group_place
returns-clause-segment_0 c = refl

pub returns-clause-segment_1 : goal.returns-clause-segment_1
unfolding byte_at_step byte_place group_place
returns-clause-segment_1 c = refl

pub returns-clause-segment_2 : goal.returns-clause-segment_2
unfolding byte_at_step byte_place group_place
returns-clause-segment_2 c = refl

pub returns-clause-segment_3 : goal.returns-clause-segment_3
unfolding byte_at_step byte_place group_place
returns-clause-segment_3 c = refl

pub returns-clause-segment_4 : goal.returns-clause-segment_4
unfolding byte_at_step byte_place group_place
returns-clause-segment_4 c = refl
