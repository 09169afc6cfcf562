use Rattle.dtx_exciter.proofs.Apart.{first_is}
use Rattle.dtx_exciter.proofs.laws.first_line.Goals as goal

pub returns : goal.returns
returns c = first_is
