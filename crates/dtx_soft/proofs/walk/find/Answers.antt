use Rattle.std.proofs.Common.{rules}
use Rattle.dtx_soft.proofs.LeastPathLemmas.{path_small}
use Rattle.dtx_soft.proofs.walk.find.Goals as goal

pub returns-clause-least : goal.returns-clause-least
returns-clause-least c = search rules

pub returns-clause-small : goal.returns-clause-small
returns-clause-small c = path_small _ c.follow.new.levels c.follow.ensures.path
