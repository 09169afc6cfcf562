use Rattle.std.proofs.Common.{◌≡◌, ◌<◌, ℕ, pos, get_or, length}
use Rattle.dtx_level.specs.Levelled.{level}
use Rattle.dtx_level.proofs.levels.Levels.level_all.Given as goal

abbrev pub invariant-loop-i : goal.invariant-loop-i
invariant-loop-i l = record {
  long : length l.out ≡ length l.symbols;
  done : (k : ℕ) → k < l.i → get_or l.out k (pos 0) ≡ level (record {
    begun = l.self.begun;
    gain = l.self.gain;
    constant = l.self.constant;
  }) (get_or l.symbols k (pos 0));
}
