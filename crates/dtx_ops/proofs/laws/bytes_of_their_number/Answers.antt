use Rattle.dtx_ops.proofs.NumbersLemmas.{big_bytes-big_number}
use Rattle.dtx_ops.proofs.laws.bytes_of_their_number.Goals as goal

pub returns : goal.returns
returns c = big_bytes-big_number
