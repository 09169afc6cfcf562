use Rattle.std.proofs.Common.{◌≡◌, ◌+◌, ◌*◌, ◌^◌, ◌<◌, take}
use Rattle.std.specs.List.{fold}
use Rattle.dtx_ops.proofs.packing.joined.Given as goal

abbrev pub invariant-loop-state : goal.invariant-loop-state
invariant-loop-state l = record {
  value : l.bits ≡ fold (λ before state. 8 * before + state) 0 (take l.state-index l.numbers);
  within : l.bits < 2 ^ (3 * l.state-index);
}
