use Rattle.std.proofs.Common.{◌≡◌, ℕ, ◌*◌, ◌<◌, [], get_or, pos}
use Rattle.dtx_slice.specs.Unrolled.{symbol_place}
use Rattle.dtx_soft.specs.Coders.{KeepsSyncs, data_symbol}
use Rattle.dtx_soft.proofs.rounds.put_back.Given as goal

abbrev pub invariant-loop-i : goal.invariant-loop-i
invariant-loop-i l = record {
  coders : (t e : ℕ) → t < 69 * l.i → e < 12
      → data_symbol l.segments (symbol_place 0 t e) ≡ get_or (get_or l.rounds t []) e (pos 0);
  syncs : KeepsSyncs l.fn.segments l.segments;
}
