use Rattle.dtx_slice.proofs.JoinsLemmas.{precoder_bits_repeated}
use Rattle.dtx_slice.proofs.laws.repeated.Goals as goal

pub returns : goal.returns
returns c = precoder_bits_repeated
