use Rattle.std.proofs.Common.{◌≡◌, ℕ, ◌<◌, vec_len, get_or}
use Rattle.dtx_whiten.specs.Randomizer.{register, randomizer_byte}
use Rattle.dtx_whiten.proofs.randomizer.Atsc.new.Given as goal

abbrev pub invariant-loop-shifts : goal.invariant-loop-shifts
invariant-loop-shifts l = record {
  long : vec_len l.bytes ≡ l._shifts;
  each : (k : ℕ) → k < l._shifts → get_or l.bytes.items k 0 ≡ randomizer_byte k;
  register : l.register ≡ register l._shifts;
}
