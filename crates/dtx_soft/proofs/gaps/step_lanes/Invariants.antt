use Rattle.dtx_soft.specs.Bounds.{IsBounded}
use Rattle.dtx_soft.specs.Gaps.{gaps_of}
use Rattle.dtx_soft.proofs.ColumnsLemmas.{AreStepped}
use Rattle.dtx_soft.proofs.gaps.step_lanes.Given as goal

abbrev pub invariant-loop-n : goal.invariant-loop-n
invariant-loop-n g l = (other : g.row.T.Denot)
    → AreStepped (IsBounded g.T.Width.bounds) l.units.scale l.symbols l.n (gaps_of g.T.Width.value other l.fn.gaps)
    (gaps_of g.T.Width.value other l.gaps) l.marks
