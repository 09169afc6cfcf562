use Rattle.dtx_pins.proofs.LeastPinnedLemmas.{least_pinned_found, least_pinned_is}
use Rattle.dtx_pins.proofs.laws.one_least_pinned_path.Goals as goal

pub returns-clause-found : goal.returns-clause-found
returns-clause-found c = least_pinned_found

pub returns-clause-one : goal.returns-clause-one
returns-clause-one c = least_pinned_is
