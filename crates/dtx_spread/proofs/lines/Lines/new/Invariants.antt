use Rattle.std.proofs.Common.{◌≡◌, map, replicate}
use Rattle.std.specs.List.{range_with_len}
use Rattle.dtx_spread.specs.Rings.{lists_of}
use Rattle.dtx_spread.proofs.lines.Lines.new.Given as goal

abbrev pub invariant-loop-i : goal.invariant-loop-i
invariant-loop-i g l = lists_of l.rings.items ≡ map (λ i. replicate (g.W.Widths.widths i) 0) (range_with_len 0 l.i)
