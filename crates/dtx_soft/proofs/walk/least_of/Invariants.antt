use Rattle.std.proofs.Common.{◌≡◌, ℕ, ◌<◌, ◌≤◌, get_or}
use Rattle.dtx_soft.proofs.walk.least_of.Given as goal

abbrev pub invariant-loop-s : goal.invariant-loop-s
invariant-loop-s l = record {
  before : l.least < l.s;
  least : (s : ℕ) → s < l.s → get_or l.costs l.least 0 ≤ get_or l.costs s 0;
  first : (s : ℕ) → s < l.s → get_or l.costs s 0 ≡ get_or l.costs l.least 0 → l.least ≤ s;
}
