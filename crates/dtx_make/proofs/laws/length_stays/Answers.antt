use Rattle.dtx_make.proofs.LaidLemmas.{length-laid}
use Rattle.dtx_make.proofs.laws.length_stays.Goals as goal

pub returns : goal.returns
returns c = length-laid
