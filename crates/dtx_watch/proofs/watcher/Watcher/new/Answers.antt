use Rattle.std.proofs.Common.{refl}
use Rattle.dtx_watch.proofs.Begun.{stands_nothing}
use Rattle.dtx_watch.proofs.watcher.Watcher.new.Goals as goal

pub returns : goal.returns
returns c = stands_nothing _ refl refl c.new-2.ensures
