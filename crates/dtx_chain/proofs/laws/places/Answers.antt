use Rattle.dtx_chain.proofs.PlacesLemmas.{sync_at_place, data_at_place}
use Rattle.dtx_chain.proofs.SlightLemmas.{sync_first, none_earlier, behind_sync, field_begins}
use Rattle.dtx_chain.proofs.laws.places.Goals as goal

pub returns-clause-sync : goal.returns-clause-sync
returns-clause-sync c = sync_at_place

pub returns-clause-segment : goal.returns-clause-segment
returns-clause-segment c = data_at_place

pub returns-clause-first : goal.returns-clause-first
returns-clause-first c = sync_first

pub returns-clause-none : goal.returns-clause-none
returns-clause-none c = none_earlier

pub returns-clause-behind : goal.returns-clause-behind
returns-clause-behind c = behind_sync

pub returns-clause-begins : goal.returns-clause-begins
returns-clause-begins c = field_begins
