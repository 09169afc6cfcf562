use Rattle.dtx_chain.proofs.ApartLemmas.{goes_elsewhere}
use Rattle.dtx_chain.proofs.laws.eleven_are_too_many.Goals as goal

pub returns : goal.returns
returns c = goes_elsewhere
