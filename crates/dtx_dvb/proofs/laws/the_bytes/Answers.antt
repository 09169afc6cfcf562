use Rattle.dtx_dvb.proofs.RandomizerLemmas.{length-randomizer_bytes, get_or-randomizer_bytes, bytes_randomizer_bytes}
use Rattle.dtx_dvb.proofs.laws.the_bytes.Goals as goal

pub returns-clause-long : goal.returns-clause-long
returns-clause-long c = length-randomizer_bytes

pub returns-clause-at : goal.returns-clause-at
returns-clause-at c = get_or-randomizer_bytes

pub returns-clause-are_bytes : goal.returns-clause-are_bytes
returns-clause-are_bytes c = bytes_randomizer_bytes
