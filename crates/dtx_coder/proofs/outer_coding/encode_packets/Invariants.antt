use Rattle.std.proofs.Common.{◌≡◌, ◌*◌, length, take}
use Rattle.dtx_coder.specs.Stream.{coded_from}
use Rattle.dtx_coder.proofs.outer_coding.encode_packets.Given as goal

abbrev pub invariant-loop-i : goal.invariant-loop-i
invariant-loop-i l = record {
  done : take (828 * l.i) l.words ≡ coded_from l.first (take (4 * l.i) l.packets);
  long : length l.words ≡ 207 * length l.packets;
}
