use Rattle.dtx_receiver.proofs.GroupedLemmas.{group_long}
use Rattle.dtx_receiver.proofs.groups.write_group.Goals as goal

pub returns-clause-long : goal.returns-clause-long
returns-clause-long c = group_long c.args.first c.args.unroll.now c.args.levels.now c.told-levels
