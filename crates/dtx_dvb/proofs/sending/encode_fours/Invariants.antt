use Rattle.std.proofs.Common.{◌≡◌, ◌*◌, length, take}
use Rattle.dtx_dvb.specs.Stream.{blocks_from}
use Rattle.dtx_dvb.proofs.sending.encode_fours.Given as goal

abbrev pub invariant-loop-i : goal.invariant-loop-i
invariant-loop-i l = record {
  done : take (816 * l.i) l.words ≡ blocks_from l.place (take (4 * l.i) l.packets);
  long : length l.words ≡ 204 * length l.packets;
}
