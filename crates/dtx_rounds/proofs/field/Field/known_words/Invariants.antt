use Rattle.std.proofs.Common.{◌≡◌, ◌≤◌, false, filter, get_or, length}
use Rattle.std.specs.List.{range_with_len}
use Rattle.dtx_rounds.proofs.field.Field.known_words.Given as goal

abbrev pub invariant-loop-k : goal.invariant-loop-k
invariant-loop-k l = record {
  known : l.count ≡ length (filter (λ k. get_or l.self.words k false) (range_with_len 0 l.k));
  few : l.count ≤ l.k;
}
