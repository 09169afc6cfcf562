use Rattle.std.proofs.Common.{◌/◌}
use Rattle.dtx_engine.proofs.Units.{groups_whole}
use Rattle.dtx_engine.proofs.piece.units_of.Goals as goal

pub returns-clause-grouped : goal.returns-clause-grouped
returns-clause-grouped c = λ on. groups_whole (c.args.bytes / c.args.shape.unit) c.args.shape.group
