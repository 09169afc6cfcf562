use Rattle.std.proofs.Common.{◌≡◌, ◌+◌, ◌-◌, ◌*◌, ◌++◌, ◌≤◌, ℤ, List, length, map, take}
use Rattle.dtx_files.specs.Symbols.{byte_of_symbol}
use Rattle.dtx_level.specs.Levelled.{levelled_so_far}
use Rattle.dtx_level.specs.Leveller.{StandsFor}
use Rattle.dtx_level.specs.Measures.{measures_text, measures_so_far}
use Rattle.dtx_jobs.specs.Levelling.{bytes_brought}
use Rattle.dtx_jobs.proofs.levelling.level_all.Given as goal

abbrev pub invariant-loop-done : goal.invariant-loop-done
invariant-loop-done l = record {
  within : l.done ≤ length l.piece;
  stands : (before : List ℤ) → StandsFor l.fn.leveller before → StandsFor l.leveller (before ++ take l.done l.piece);
  symbols_are : (before : List ℤ) → StandsFor l.fn.leveller before
      → map byte_of_symbol (levelled_so_far (before ++ take l.done l.piece))
      ≡ map byte_of_symbol (levelled_so_far before) ++ bytes_brought l.brought;
  lines : (before : List ℤ) → StandsFor l.fn.leveller before
      → measures_text (measures_so_far (before ++ take l.done l.piece))
      ≡ measures_text (measures_so_far before) ++ l.brought.lines;
  count : l.leveller.symbols ≡ l.fn.leveller.symbols + l.done;
  room : length l.brought.symbols + length l.leveller.held ≤ length l.fn.leveller.held + l.done;
  short : 832 * length l.brought.lines ≤ 110 * length l.brought.symbols;
}

abbrev pub decreases-loop-done : goal.decreases-loop-done
decreases-loop-done l = length l.piece - l.done
