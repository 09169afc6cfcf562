use Rattle.std.proofs.Common.{◌≡◌, ℕ, ◌*◌, ◌<◌, [], get_or, pos}
use Rattle.dtx_slice.specs.Unrolled.{symbol_place}
use Rattle.dtx_soft.specs.Coders.{data_symbol}
use Rattle.dtx_soft.proofs.rounds.lay_out.Given as goal

abbrev pub invariant-loop-i : goal.invariant-loop-i
invariant-loop-i l = (t e : ℕ) → t < 69 * l.i → e < 12
    → get_or (get_or l.rounds t []) e (pos 0) ≡ data_symbol l.segments (symbol_place 0 t e)
