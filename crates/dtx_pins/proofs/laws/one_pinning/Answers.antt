use Rattle.dtx_pins.proofs.PinnedFieldLemmas.{one_decision, pinned_found, pinned_is}
use Rattle.dtx_pins.proofs.laws.one_pinning.Goals as goal

pub returns-clause-found : goal.returns-clause-found
returns-clause-found c = pinned_found

pub returns-clause-one : goal.returns-clause-one
returns-clause-one c = pinned_is

pub returns-clause-alone : goal.returns-clause-alone
returns-clause-alone c = one_decision
