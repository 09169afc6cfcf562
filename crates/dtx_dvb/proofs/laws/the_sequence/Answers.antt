use Rattle.dtx_dvb.proofs.RandomizerLemmas.{length-sequence}
use Rattle.dtx_dvb.proofs.RandomizerLemmas.{loaded_in, sequence_rule, bit_in}
use Rattle.dtx_dvb.proofs.laws.the_sequence.Goals as goal

pub returns-clause-long : goal.returns-clause-long
returns-clause-long c = length-sequence

pub returns-clause-loaded : goal.returns-clause-loaded
returns-clause-loaded c = loaded_in

pub returns-clause-rule : goal.returns-clause-rule
returns-clause-rule c = sequence_rule

pub returns-clause-bit : goal.returns-clause-bit
returns-clause-bit c = bit_in
