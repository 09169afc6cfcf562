use Rattle.std.proofs.Common.{◌≡◌, ◌≤◌, ◌++◌, length, map}
use Rattle.dtx_words.specs.Names.{names_at}
use Rattle.dtx_words.proofs.FileNames.{names_from}
use Rattle.dtx_words.proofs.names.names_at.Given as goal

abbrev pub invariant-loop-i : goal.invariant-loop-i
invariant-loop-i l = record {
  count : length l.names.items ≤ l.i;
  names : map (λ name. name.now) l.names.items ++ names_from l.fields l.words l.i ≡ names_at l.fields l.words;
}
