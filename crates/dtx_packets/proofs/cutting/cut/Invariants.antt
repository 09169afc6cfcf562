use Rattle.std.proofs.Common.{◌≡◌, map, take, drop}
use Rattle.dtx_packets.specs.Packets.{packets_from}
use Rattle.dtx_packets.proofs.cutting.cut.Given as goal

abbrev pub invariant-loop-k : goal.invariant-loop-k
invariant-loop-k l = record {
  packets : map (λ p. p.0) (take l.k l.into) ≡ packets_from l.bytes 0 l.k;
  rest : drop l.k l.into ≡ drop l.k l.fn.into;
}
