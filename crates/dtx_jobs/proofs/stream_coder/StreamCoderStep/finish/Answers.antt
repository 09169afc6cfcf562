use Rattle.std.proofs.Common.{sym, ◌∙◌}
use Rattle.dtx_packets.specs.Packets.{packets_of}
use Rattle.dtx_forms.proofs.FilePacketsLemmas.{length-packets_of}
use Rattle.dtx_jobs.proofs.stream_coder.StreamCoderStep.finish.Goals as goal

pub returns-clause-outcome : goal.returns-clause-outcome
returns-clause-outcome c = λ given stand.
    cc (
      c.done.ensures,
      stand.packets,
      c.segments_of.ensures (packets_of given)
          (length-packets_of given ∙ sym stand.packets),
    )
