use Rattle.dtx_slice.proofs.JoinsLemmas.{bytes_append, precoder_bits_append}
use Rattle.dtx_slice.proofs.laws.group_after_group.Goals as goal

pub returns-clause-bytes : goal.returns-clause-bytes
returns-clause-bytes c = bytes_append

pub returns-clause-precoder_bits : goal.returns-clause-precoder_bits
returns-clause-precoder_bits c = precoder_bits_append
