use Rattle.dtx_symbol_laws.proofs.MendedBackLemmas.{all_mended_back}
use Rattle.dtx_symbol_laws.proofs.laws.mending.a_stretch_is_mended.Goals as goal

pub returns : goal.returns
returns c = all_mended_back
