use Rattle.std.proofs.Common.{◌≡◌, ◌+◌, ◌*◌, ◌++◌, length, take}
use Rattle.dtx_files.specs.Symbols.{segment_bytes}
use Rattle.dtx_jobs.proofs.symbol_buffer.SymbolBuffer.push_all.Given as goal

abbrev pub invariant-loop-i : goal.invariant-loop-i
invariant-loop-i g l = record {
  bytes : l.self ≡ l.fn.self ++ segment_bytes (take l.i l.segments);
  long : length l.self ≡ length l.fn.self + 832 * l.i;
}
