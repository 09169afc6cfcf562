-- How many signs of a field sync are plus.
use Rattle.std.proofs.Common.{◌≡◌, cond, map, sum, sym, arith}
use Rattle.std.specs.List.{range_with_len}
use Rattle.dtx_frame.proofs.SymbolsLemmas.{first_is}
use Rattle.dtx_acquire.specs.Agreement.{sync_sign}

pub signs_counted : sum (map (λ i. cond (sync_sign i) 1 0) (range_with_len 0 515)) ≡ 258
unfolding sync_sign
signs_counted = sym (grind (arith, first_is))
