use Rattle.std.proofs.Common.{◌≡◌, ◌<◌, ◌-◌, ℕ, List, length}
use Rattle.std.specs.Prelude.{Some, IfSome}
use Rattle.std.specs.FinMap.{get}
use Rattle.dtx_outside.specs.Counts.{HasGone, Nothing}
use Rattle.dtx_forms.specs.PlanFile.{AreFirstOf}
use Rattle.dtx_forms.proofs.plan_file.read_all.Given as goal

abbrev pub invariant-loop-ended : goal.invariant-loop-ended
invariant-loop-ended g l = record {
  room : length l.piece ≡ 65536;
  short : length l.bytes.items < 16777217;
  front : IfSome (g.S.Shelf.files l.fn.shelf) (λ held. (file : List ℕ) → get held l.name ≡ Some file
      → AreFirstOf file l.bytes.items);
  kept : g.S.Shelf.files l.shelf ≡ g.S.Shelf.files l.fn.shelf;
  gone : HasGone (g.S.Shelf.counts l.fn.shelf) (g.S.Shelf.counts l.shelf) Nothing;
}

abbrev pub decreases-loop-ended : goal.decreases-loop-ended
decreases-loop-ended g l = 16777217 - length l.bytes.items
