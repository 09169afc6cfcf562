use Rattle.std.proofs.Common.{rules, refl}
use Rattle.dtx_exciter.proofs.Taken.{keeps_single, holds_new}
use Rattle.dtx_exciter.proofs.exciter.Exciter.begin.Goals as goal

pub returns-clause-keeps : goal.returns-clause-keeps
returns-clause-keeps c =
    keeps_single c.args.self.now.address c.args.self.now.delay _ c.args.self.now.packets c.args.packet.now
    c.args.self.now.coder refl refl (holds_new c.args.self.now.address c.new-self.result c.new-self.ensures) refl
    (search rules) c.align.ensures
    c.known.ensures.states c.known.ensures.branches
