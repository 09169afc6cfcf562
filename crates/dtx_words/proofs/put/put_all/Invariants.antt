use Rattle.std.proofs.Common.{◌≡◌, ◌++◌, take}
use Rattle.std.specs.Option.{option_map}
use Rattle.dtx_words.specs.Printed.{text_of}
use Rattle.dtx_words.proofs.put.put_all.Given as goal

abbrev pub invariant-loop-piece : goal.invariant-loop-piece
invariant-loop-piece g l = record {
  written : g.O.Sink.written l.out ≡ option_map (λ before. before ++ text_of (take l.piece-index l.pieces))
      (g.O.Sink.written l.fn.out);
  counts : g.O.Sink.counts l.out ≡ g.O.Sink.counts l.fn.out;
}
