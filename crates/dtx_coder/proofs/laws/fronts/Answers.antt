use Rattle.dtx_coder.proofs.StreamLemmas.{a53_from, a53_whole}
use Rattle.dtx_coder.proofs.laws.fronts.Goals as goal

pub returns-clause-front : goal.returns-clause-front
returns-clause-front c = a53_from

pub returns-clause-whole : goal.returns-clause-whole
returns-clause-whole c = a53_whole
