use Rattle.std.proofs.Common.{◌≡◌, ℕ, ◌*◌, ◌<◌, get_or, pos}
use Rattle.dtx_slice.specs.Unrolled.{symbol_place}
use Rattle.dtx_soft.specs.Coders.{data_symbol}
use Rattle.dtx_soft.proofs.coders.gather.Given as goal

abbrev pub invariant-loop-i : goal.invariant-loop-i
invariant-loop-i l = (k : ℕ) → k < 69 * l.i
    → get_or l.symbols k (pos 0) ≡ data_symbol l.segments (symbol_place 0 k l.coder)
