use Rattle.std.proofs.Common.{◌≡◌, ℕ, ◌-◌, ◌*◌, ◌/◌, ◌%◌, ◌^◌, ◌<◌, slice_index, length}
use Rattle.dtx_ops.proofs.packing.unpacked.Given as goal

abbrev pub invariant-loop-e : goal.invariant-loop-e
invariant-loop-e l = record {
  long : length l.numbers ≡ 12;
  states : (k : ℕ) → k < l.e → slice_index l.numbers k ≡ l.bits / 2 ^ (37 - 3 * k) % 8;
}
