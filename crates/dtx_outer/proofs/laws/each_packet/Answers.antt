use Rattle.dtx_outer.proofs.BackLemmas.{coded_is}
use Rattle.dtx_outer.proofs.Coding.{length-codewords, get_or-codewords, length-joined}
use Rattle.dtx_outer.proofs.laws.each_packet.Goals as goal

pub returns-clause-count : goal.returns-clause-count
returns-clause-count c = length-codewords

pub returns-clause-at : goal.returns-clause-at
returns-clause-at c = get_or-codewords

pub returns-clause-is : goal.returns-clause-is
returns-clause-is c = λ n k white p head. coded_is n k white _ head

pub returns-clause-joined : goal.returns-clause-joined
returns-clause-joined c = length-joined
