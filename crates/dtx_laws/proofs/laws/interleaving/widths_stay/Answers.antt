use Rattle.dtx_laws.proofs.InterleavingLemmas.{HasWidths-all}
use Rattle.dtx_laws.proofs.laws.interleaving.widths_stay.Goals as goal

pub returns : goal.returns
returns c = HasWidths-all
