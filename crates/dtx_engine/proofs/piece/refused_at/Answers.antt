use Rattle.std.proofs.Common.{rules}
use Rattle.dtx_engine.proofs.piece.refused_at.Goals as goal

pub returns : goal.returns
returns c = search rules
