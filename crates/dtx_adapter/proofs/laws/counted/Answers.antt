use Rattle.dtx_adapter.proofs.GroupsLemmas.{filled_groups-next, filled_groups-more}
use Rattle.dtx_adapter.proofs.ReadingsLemmas.{is_filled-feed, filled_groups-feed}
use Rattle.dtx_adapter.proofs.laws.counted.Goals as goal

pub returns-clause-next : goal.returns-clause-next
returns-clause-next c = filled_groups-next

pub returns-clause-filled : goal.returns-clause-filled
returns-clause-filled c = is_filled-feed

pub returns-clause-feed : goal.returns-clause-feed
returns-clause-feed c = filled_groups-feed

pub returns-clause-later : goal.returns-clause-later
returns-clause-later c = filled_groups-more
