use Rattle.std.proofs.Common.{◌≡◌, ℕ, List, length}
use Rattle.dtx_coder.specs.Batches.{AreInterleaved}
use Rattle.dtx_coder.specs.Groups.{StandsFor}
use Rattle.dtx_adapter.proofs.adapter.Adapter.code.Given as goal

abbrev pub invariant-loop-i : goal.invariant-loop-i
invariant-loop-i l = record {
  sent : (fed : List (List ℕ)) → length fed ≡ l.fn.self.given → StandsFor l.fn.self.coder fed
      → AreInterleaved l.self.coder l.self.batch.bytes fed l.packets l.i;
  filler : l.self.filler ≡ l.fn.self.filler;
  given : l.self.given ≡ l.fn.self.given;
}
