use Rattle.std.proofs.Common.{◌≡◌, ◌+◌, ◌*◌, ◌≤◌, ℕ, ℤ, List, length}
use Rattle.dtx_acquire.specs.Agreement.{unlike, ArePacked}
use Rattle.dtx_acquire.proofs.signs.unlike_in.Given as goal

abbrev pub invariant-loop-k : goal.invariant-loop-k
invariant-loop-k l = record {
  few : l.count ≤ 64 * l.k;
  counted : (symbols : List ℤ) (place : ℕ) → place + 640 ≤ length symbols → ArePacked l.words symbols place
      → l.count ≡ unlike symbols (place + l.from) 0 (64 * l.k);
}
