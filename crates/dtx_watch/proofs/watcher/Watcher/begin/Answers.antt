use Rattle.std.proofs.Common.{rules, refl}
use Rattle.dtx_watch.proofs.Begun.{keeps_single}
use Rattle.dtx_watch.proofs.watcher.Watcher.begin.Goals as goal

pub returns-clause-keeps : goal.returns-clause-keeps
returns-clause-keeps c =
    keeps_single _ c.args.self.now.packets c.args.packet.now c.args.self.now.coder refl refl refl refl refl
    (search rules) c.align.ensures c.known.ensures.states c.known.ensures.branches
