use Rattle.std.proofs.Common.{◌≡◌, ◌↔◌, ℕ, ◌<◌, ◌≤◌, get_or, length, pos}
use Rattle.dtx_soft.specs.Bounds.{IsNear}
use Rattle.dtx_soft.proofs.near.add_far.Given as goal

abbrev pub invariant-loop-n : goal.invariant-loop-n
invariant-loop-n l = record {
  long : length l.far ≡ 16;
  done : (k : ℕ) → k < l.n → (get_or l.far k 0 ≡ 0)
      ↔ ((get_or l.fn.far k 0 ≡ 0) × IsNear (get_or l.symbols k (pos 0)));
  left : (k : ℕ) → l.n ≤ k → get_or l.far k 0 ≡ get_or l.fn.far k 0;
}
