use Rattle.dtx_slice.specs.Unrolled.{precoder_bits_of}
use Rattle.dtx_rounds.proofs.GroupBytes.{AreWritten}
use Rattle.dtx_rounds.proofs.group_bytes.write_groups.Given as goal

abbrev pub invariant-loop-g : goal.invariant-loop-g
invariant-loop-g l = AreWritten l.segments (precoder_bits_of l.last) l.g l.unroll l.bytes
