use Rattle.std.proofs.Common.{◌≡◌, ℕ, ◌+◌, ◌*◌, ◌<◌, ◌++◌, List, drop, length, take}
use Rattle.dtx_soft.specs.Least.{IsLeastFrom}
use Rattle.dtx_soft.proofs.walk.follow.Given as goal

-- what is written so far goes on with any least path from the state that it leads to
abbrev pub invariant-loop-t : goal.invariant-loop-t
invariant-loop-t l = record {
  q1 : l.q1 < 2;
  q0 : l.q0 < 2;
  long : length l.levels ≡ length l.symbols;
  goes_on : (rest : List ℕ) → IsLeastFrom l.fn.table.scale (drop l.t l.symbols) (2 * l.q1 + l.q0) rest
      → IsLeastFrom l.fn.table.scale l.symbols l.fn.start (take l.t l.levels ++ rest);
}
