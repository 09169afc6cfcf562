use Rattle.std.proofs.Common.{◌≡◌, length, take}
use Rattle.dtx_receiver.specs.Bytes.{symbols_of}
use Rattle.dtx_receiver.proofs.symbols.to_symbols.Given as goal

abbrev pub invariant-loop-i : goal.invariant-loop-i
invariant-loop-i l = record {
  long : length l.symbols ≡ length l.bytes;
  done : take l.i l.symbols ≡ symbols_of (take l.i l.bytes);
}
