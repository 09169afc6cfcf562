use Rattle.std.proofs.Common.{rules}
use Rattle.dtx_watch.proofs.watcher.Watcher.expected.Goals as goal

pub returns-then-not-self-2 : goal.returns-then-not-self-2
returns-then-not-self-2 c = search rules

pub returns-else-not-self-2 : goal.returns-else-not-self-2
returns-else-not-self-2 c = search rules
