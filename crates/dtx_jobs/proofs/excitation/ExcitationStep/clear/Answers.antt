use Rattle.std.proofs.Common.{length, ap, ◌∙◌, arith}
use Rattle.dtx_packets.specs.Packets.{packets_of}
use Rattle.dtx_jobs.proofs.excitation.ExcitationStep.clear.Goals as goal

pub returns-clause-ready : goal.returns-clause-ready
returns-clause-ready c = λ first units grouped few.
    let some = c.requires.given.1 in
    let before = packets_of some.0 in (
      before,
      record { exciter = some.2.exciter; tally = c.clear.ensures.tally ∙ some.2.tally },
      omega (arith, few, c.groups_are_spaced.ensures.part before, ap length c.clear.ensures.symbols),
      omega (arith, few, ap length c.clear.ensures.lines),
    )
