use Rattle.dtx_pins.proofs.PinnedFieldLemmas.{pinned_level}
use Rattle.dtx_pins.proofs.laws.decided_levels.Goals as goal

pub returns : goal.returns
returns c = λ scale i k pins heard old new. pinned_level scale pins heard old new i k
