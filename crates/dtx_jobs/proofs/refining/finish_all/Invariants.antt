use Rattle.std.proofs.Common.{◌≡◌, ◌+◌, ◌*◌, ◌≤◌, ◌⊎◌, ℤ, List, [], length}
use Rattle.dtx_files.specs.Symbols.{segment_bytes}
use Rattle.dtx_refine.specs.Refiner.{IsEnding, StandsFor}
use Rattle.dtx_jobs.specs.Restorer.{IsRefining}
use Rattle.dtx_jobs.proofs.refining.finish_all.Given as goal

abbrev pub invariant-loop-gathered : goal.invariant-loop-gathered
invariant-loop-gathered l = record {
  ending : (symbols : List ℤ) → IsRefining l.fn.refiner symbols
      → (StandsFor l.refiner symbols × (l.gathered ≡ []))
      ⊎ ((before : List (List ℤ)) × IsEnding l.refiner symbols before × (l.gathered ≡ segment_bytes before));
  scale : l.refiner.scale ≡ l.fn.refiner.scale;
  rounds : l.refiner.rounds ≡ l.fn.refiner.rounds;
  count : l.refiner.symbols ≡ l.fn.refiner.symbols;
  room : length l.gathered + 832 * l.refiner.waiting ≤ 8593728;
}

abbrev pub decreases-loop-gathered : goal.decreases-loop-gathered
decreases-loop-gathered l = l.refiner.waiting
