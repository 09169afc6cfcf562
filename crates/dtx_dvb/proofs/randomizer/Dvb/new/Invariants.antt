use Rattle.std.proofs.Common.{◌≡◌, ℕ, ◌<◌, vec_len, get_or}
use Rattle.dtx_dvb.specs.Randomizer.{randomizer_byte}
use Rattle.dtx_dvb.proofs.randomizer.Dvb.new.Given as goal

abbrev pub invariant-loop-t : goal.invariant-loop-t
invariant-loop-t l = record {
  long : vec_len l.bytes ≡ l.t;
  each : (k : ℕ) → k < l.t → get_or l.bytes.items k 0 ≡ randomizer_byte k;
}
