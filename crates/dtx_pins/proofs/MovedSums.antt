-- Sums over what moves.
use Rattle.std.proofs.Common.{◌≡◌, ℕ, ◌+◌, ◌<◌, map, sum, arith}
use Rattle.std.specs.List.{range_with_len}
use Rattle.std.proofs.lemmas.List.FromFn.{sum_by-map-range_with_len_more}
use Rattle.dtx_lists.proofs.Range.{map-range_same}

-- a sum over one number more, where those before stay
pub moved_more : (f g : ℕ → ℕ) (k moved more : ℕ) → ((i : ℕ) → i < k → g i ≡ f i)
    → moved ≡ sum (map f (range_with_len 0 k)) → more ≡ g k → moved + more ≡ sum (map g (range_with_len 0 (k + 1)))
moved_more f g k moved more same e h = grind (arith, map-range_same, sum_by-map-range_with_len_more)
