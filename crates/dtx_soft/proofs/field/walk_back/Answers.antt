use Rattle.std.proofs.Common.{pos}
use Rattle.dtx_soft.proofs.ColumnsLemmas.{walked_alike}
use Rattle.dtx_soft.proofs.field.walk_back.Goals as goal

pub returns-then-are_near-clause-walked : goal.returns-then-are_near-clause-walked
returns-then-are_near-clause-walked c =
    walked_alike c.args.scale 0 c.args.rounds.now _ _ _ c.widened.ensures (c.backward.ensures.walked (pos 0))

pub returns-else-are_near-clause-walked : goal.returns-else-are_near-clause-walked
returns-else-are_near-clause-walked c = c.backward-else-are_near.ensures.walked (pos 0)
