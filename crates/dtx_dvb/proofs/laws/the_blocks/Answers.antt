use Rattle.dtx_dvb.proofs.StreamLemmas.{length-blocks, randomized_whitened}
use Rattle.dtx_dvb.proofs.BackLemmas.{block_is, block_begins, block_there}
use Rattle.dtx_dvb.proofs.laws.the_blocks.Goals as goal

pub returns-clause-long : goal.returns-clause-long
returns-clause-long c = length-blocks 0

pub returns-clause-at : goal.returns-clause-at
returns-clause-at c = block_there

pub returns-clause-is : goal.returns-clause-is
returns-clause-is c = block_is

pub returns-clause-begins : goal.returns-clause-begins
returns-clause-begins c = block_begins

pub returns-clause-whitened : goal.returns-clause-whitened
returns-clause-whitened c = randomized_whitened
