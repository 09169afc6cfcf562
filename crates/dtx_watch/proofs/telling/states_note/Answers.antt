use Rattle.std.proofs.Common.{rules}
use Rattle.dtx_watch.proofs.telling.states_note.Goals as goal

pub returns-else-eq : goal.returns-else-eq
returns-else-eq c = search rules
