use Rattle.std.proofs.Common.{◌≡◌, length, map, take}
use Rattle.dtx_files.specs.Symbols.{byte_of_symbol}
use Rattle.dtx_files.proofs.symbols.to_bytes.Given as goal

abbrev pub invariant-loop-i : goal.invariant-loop-i
invariant-loop-i l = record {
  long : length l.bytes ≡ 4160;
  done : take l.i l.bytes ≡ map byte_of_symbol (take l.i l.symbols);
}
