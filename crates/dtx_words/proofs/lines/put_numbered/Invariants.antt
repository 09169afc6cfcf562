use Rattle.std.proofs.Common.{◌≡◌}
use Rattle.dtx_words.proofs.LinePieces.{numbered_from}
use Rattle.dtx_words.proofs.Printed.{IsSoFar}
use Rattle.dtx_words.proofs.lines.put_numbered.Given as goal

abbrev pub invariant-loop-i : goal.invariant-loop-i
invariant-loop-i g l = record {
  written : IsSoFar (numbered_from l.labels l.numbers 0) (numbered_from l.labels l.numbers l.i)
      (g.O.Sink.written l.fn.out) (g.O.Sink.written l.out);
  counts : g.O.Sink.counts l.out ≡ g.O.Sink.counts l.fn.out;
}
