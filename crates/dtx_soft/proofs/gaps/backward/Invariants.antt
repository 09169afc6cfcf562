use Rattle.std.proofs.Common.{◌≡◌, ℕ, ◌<◌, length}
use Rattle.dtx_soft.specs.Bounds.{IsBounded}
use Rattle.dtx_soft.specs.Gaps.{AreWalked, gaps_of}
use Rattle.dtx_soft.proofs.gaps.backward.Given as goal

abbrev pub invariant-loop-t : goal.invariant-loop-t
invariant-loop-t g l = record {
  room : length l.marks ≡ length l.rounds;
  bounded : (n : ℕ) (other : g.row.T.Denot) → n < 16
      → IsBounded g.T.Width.bounds (gaps_of g.T.Width.value other l.gaps n);
  walked : (other : g.row.T.Denot)
      → AreWalked l.fn.scale l.t l.rounds (gaps_of g.T.Width.value other l.gaps) l.marks;
}
