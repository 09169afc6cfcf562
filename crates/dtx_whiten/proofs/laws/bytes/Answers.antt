use Rattle.dtx_whiten.proofs.BytesLemmas.{get_or-randomizer_bytes}
use Rattle.dtx_whiten.proofs.laws.bytes.Goals as goal

pub returns : goal.returns
returns c = get_or-randomizer_bytes
