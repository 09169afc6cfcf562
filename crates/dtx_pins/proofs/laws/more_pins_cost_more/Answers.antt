use Rattle.dtx_pins.proofs.LeastPinnedLemmas.{fewer_pins_cost_less}
use Rattle.dtx_pins.proofs.laws.more_pins_cost_more.Goals as goal

pub returns : goal.returns
returns c = fewer_pins_cost_less
