-- Sums over a range.
use Rattle.std.proofs.Common.{◌≡◌, ℕ, ◌+◌, map, sum, arith}
use Rattle.std.specs.List.{range_with_len}
use Rattle.std.proofs.lemmas.List.{map-append}
use Rattle.std.proofs.lemmas.List.Sums.{sum_by-append}
use Rattle.dtx_lists.proofs.Range.{range_with_len-parts}

-- the sum over n numbers, from a on
abbrev pub over : (ℕ → ℕ) → ℕ → ℕ → ℕ
over f a n = sum (map f (range_with_len a n))

-- in two parts
pub over_parts : (f : ℕ → ℕ) (a m n : ℕ) → over f a (m + n) ≡ over f a m + over f (a + m) n
over_parts f a m n = grind (arith, range_with_len-parts, map-append, sum_by-append)
