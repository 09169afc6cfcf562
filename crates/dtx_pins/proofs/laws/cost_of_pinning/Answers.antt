use Rattle.dtx_pins.proofs.PinnedFieldLemmas.{pinned_cost_is}
use Rattle.dtx_pins.proofs.laws.cost_of_pinning.Goals as goal

pub returns : goal.returns
returns c = pinned_cost_is
