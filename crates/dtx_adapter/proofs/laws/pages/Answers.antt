use Rattle.dtx_adapter.proofs.PacketPagesLemmas.{packet_of_one, packet_of_many, packet_has_place, on_one_page}
use Rattle.dtx_adapter.proofs.PacketPagesLemmas.{packet_entry}
use Rattle.dtx_adapter.proofs.PagesLemmas.{pages_hold, pages_are_least}
use Rattle.dtx_adapter.proofs.laws.pages.Goals as goal

pub returns-clause-one : goal.returns-clause-one
returns-clause-one c = packet_of_one

pub returns-clause-many : goal.returns-clause-many
returns-clause-many c = packet_of_many

pub returns-clause-hold : goal.returns-clause-hold
returns-clause-hold c = pages_hold

pub returns-clause-fewest : goal.returns-clause-fewest
returns-clause-fewest c = pages_are_least

pub returns-clause-place : goal.returns-clause-place
returns-clause-place c = packet_has_place

pub returns-clause-on_one : goal.returns-clause-on_one
returns-clause-on_one c = on_one_page

pub returns-clause-entry : goal.returns-clause-entry
returns-clause-entry c = packet_entry
