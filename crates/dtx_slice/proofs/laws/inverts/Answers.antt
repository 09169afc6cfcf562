use Rattle.dtx_slice.proofs.InverseLemmas.{bytes_come_back, precoder_bits_go_on}
use Rattle.dtx_slice.proofs.laws.inverts.Goals as goal

pub returns-clause-bytes : goal.returns-clause-bytes
returns-clause-bytes c = bytes_come_back

pub returns-clause-precoder_bits : goal.returns-clause-precoder_bits
returns-clause-precoder_bits c = λ s u states bytes h. precoder_bits_go_on s states bytes
