use Rattle.std.proofs.Common.{◌≡◌, ◌≤◌, ◌<◌, ◌-◌, length}
use Rattle.std.specs.Prelude.{IfSome, Ok}
use Rattle.dtx_outside.specs.Counts.{HasGone, Nothing}
use Rattle.dtx_outside.specs.Foreseen.{IsForeseenRead}
use Rattle.dtx_outside.specs.Shelf.{file_or_empty}
use Rattle.dtx_outside.proofs.SoFar.{SoFar}
use Rattle.dtx_outside.proofs.filling.fill_least.Given as goal

abbrev pub invariant-loop-count : goal.invariant-loop-count
invariant-loop-count g l = record {
  in_range : l.count ≤ length l.into;
  told : IfSome (g.S.Shelf.files l.fn.shelf) (λ held. SoFar (file_or_empty held l.name) l.place l.count l.into);
  kept : g.S.Shelf.files l.shelf ≡ g.S.Shelf.files l.fn.shelf;
  foreseen : 0 < l.count
      → IsForeseenRead (g.S.Shelf.foreseen.readable l.name) l.place (length l.fn.into) (Ok l.count);
  gone : HasGone (g.S.Shelf.counts l.fn.shelf) (g.S.Shelf.counts l.shelf) Nothing;
}

abbrev pub decreases-loop-count : goal.decreases-loop-count
decreases-loop-count g l = length l.initial.into - l.count
