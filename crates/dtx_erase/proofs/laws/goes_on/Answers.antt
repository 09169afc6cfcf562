use Rattle.dtx_erase.proofs.GrowingLemmas.{nothing_mended, mended_more, mended_end}
use Rattle.dtx_erase.proofs.laws.goes_on.Goals as goal

pub returns : goal.returns
returns c = record { none = nothing_mended; segment = mended_more; end = mended_end }
