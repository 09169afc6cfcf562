use Rattle.dtx_outer.proofs.Coding.{codewords_more, leaving_more, after_more}
use Rattle.dtx_outer.proofs.laws.one_more.Goals as goal

pub returns-clause-codeword : goal.returns-clause-codeword
returns-clause-codeword c = codewords_more

pub returns-clause-bytes : goal.returns-clause-bytes
returns-clause-bytes c = leaving_more

pub returns-clause-branches : goal.returns-clause-branches
returns-clause-branches c = after_more
