use Rattle.dtx_net.proofs.PlaceOfLemmas.{place_found, place_only, place_missing}
use Rattle.dtx_net.proofs.laws.places.Goals as goal

pub returns-clause-found : goal.returns-clause-found
returns-clause-found c = place_found

pub returns-clause-only : goal.returns-clause-only
returns-clause-only c = place_only

pub returns-clause-missing : goal.returns-clause-missing
returns-clause-missing c = place_missing
