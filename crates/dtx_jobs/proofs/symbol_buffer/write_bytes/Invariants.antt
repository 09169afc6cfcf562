use Rattle.std.proofs.Common.{◌≡◌, map, take}
use Rattle.dtx_files.specs.Symbols.{byte_of_symbol}
use Rattle.dtx_jobs.proofs.symbol_buffer.write_bytes.Given as goal

abbrev pub invariant-loop-i : goal.invariant-loop-i
invariant-loop-i l = take l.i l.bytes ≡ map byte_of_symbol (take l.i l.symbols)
