use Rattle.std.proofs.Common.{◌≡◌, map, take, All}
use Rattle.dtx_ops.specs.Spelling.{IsEntry}
use Rattle.dtx_adapter.specs.Feed.{entry_of}
use Rattle.dtx_adapter.proofs.filler.entries_of.Given as goal

abbrev pub invariant-loop-transmitter : goal.invariant-loop-transmitter
invariant-loop-transmitter l = record {
  entries : l.entries.items ≡ map entry_of (take l.transmitter-index l.transmitters);
  fit : All (λ t. IsEntry (entry_of t)) (take l.transmitter-index l.transmitters);
}
