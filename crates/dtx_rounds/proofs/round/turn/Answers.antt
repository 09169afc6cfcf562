use Rattle.std.proofs.Common.{◌∙◌, length, sym, ap}
use Rattle.dtx_rounds.proofs.round.turn.Goals as goal

pub returns-clause-long : goal.returns-clause-long
returns-clause-long c = ap length (sym c.bytes.ensures.bytes) ∙ c.bytes.ensures.long
