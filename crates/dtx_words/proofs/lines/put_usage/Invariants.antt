use Rattle.std.proofs.Common.{◌≡◌, ◌++◌}
use Rattle.std.specs.Prelude.{codes}
use denote.Shadow.{shadow}
use denote.Text.{Utf8}
use Rattle.dtx_words.specs.Line.{usage_line}
use Rattle.dtx_words.proofs.LinePieces.{verbs_from}
use Rattle.dtx_words.proofs.Printed.{IsSoFar}
use Rattle.dtx_words.proofs.lines.put_usage.Given as goal

abbrev pub invariant-loop-command : goal.invariant-loop-command
invariant-loop-command g l = record {
  written : IsSoFar usage_line (verbs_from l.before l.command-items l.command-index
      ++ codes "\n") (g.O.Sink.written l.fn.out) (g.O.Sink.written l.out);
  text : shadow (Utf8 l.before);
  counts : g.O.Sink.counts l.out ≡ g.O.Sink.counts l.fn.out;
}
