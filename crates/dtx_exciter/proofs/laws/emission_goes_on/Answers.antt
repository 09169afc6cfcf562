use Rattle.dtx_exciter.proofs.EmittedLemmas.{emission_more}
use Rattle.dtx_exciter.proofs.laws.emission_goes_on.Goals as goal

pub returns : goal.returns
returns c = emission_more
