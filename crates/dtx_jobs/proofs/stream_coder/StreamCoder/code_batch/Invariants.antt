use Rattle.std.proofs.Common.{◌≡◌, ◌≤◌, ◌+◌, ◌*◌, ◌++◌, ℕ, List, length, take}
use Rattle.dtx_coder.specs.Batches.{AreInterleaved}
use Rattle.dtx_coder.specs.Groups.{StandsFor}
use Rattle.dtx_recipes.specs.SymbolFile.{symbol_bytes}
use Rattle.dtx_jobs.proofs.stream_coder.StreamCoder.code_batch.Given as goal

abbrev pub invariant-loop-i : goal.invariant-loop-i
invariant-loop-i l = record {
  sent : (before : List (List ℕ)) → length before ≡ l.first → StandsFor l.fn.self.coder.value before
      → AreInterleaved l.self.coder.value l.self.batch.bytes before l.packets l.i;
  brought : (before : List (List ℕ)) (bytes : List ℕ) → length before ≡ l.first
      → StandsFor l.fn.self.coder.value before → symbol_bytes before ≡ bytes ++ l.fn.self.symbols
      → symbol_bytes (before ++ take (4 * l.i) l.packets) ≡ bytes ++ l.self.symbols;
  room : length l.self.symbols ≤ length l.fn.self.symbols + 4160 * l.i;
}
