use Rattle.std.proofs.Common.{◌≡◌, ◌≤◌, ◌-◌, ◌++◌, length, take}
use Rattle.std.specs.Option.{option_map}
use Rattle.dtx_words.proofs.put.put.Given as goal

abbrev pub invariant-loop-done : goal.invariant-loop-done
invariant-loop-done g l = record {
  in_range : l.done ≤ length l.bytes;
  written : g.O.Sink.written l.out ≡ option_map (λ before. before ++ take l.done l.bytes) (g.O.Sink.written l.fn.out);
  counts : g.O.Sink.counts l.out ≡ g.O.Sink.counts l.fn.out;
}

abbrev pub decreases-loop-done : goal.decreases-loop-done
decreases-loop-done g l = length l.bytes - l.done
