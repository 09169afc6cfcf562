-- Where the coders' symbols stand, and a segment that is written.
use Rattle.std.proofs.Common.{◌≡◌, ◌≢◌, ℕ, ℤ, pos, ◌+◌, ◌-◌, ◌*◌, ◌/◌, ◌%◌, ◌<◌, ◌⊎◌, inl, inr, List, [], length}
use Rattle.std.proofs.Common.{get_or, slice_set, ap, ◌∙◌, arith}
use Rattle.std.proofs.lemmas.Bool.{cases_eq}
use Rattle.std.proofs.lemmas.List.{get_or-set_same, get_or-set_other}
use Rattle.dtx_slice.specs.Unrolled.{symbol_place}
use Rattle.dtx_soft.specs.Coders.{KeepsSyncs, data_symbol}

pub place_segment : (t e : ℕ) → symbol_place 0 t e / 828 ≡ t / 69
unfolding symbol_place
place_segment t e = omega arith

-- which of the twelve symbols of a round
pub place_round : (t e : ℕ) → symbol_place 0 t e % 828 ≡ 12 * (t % 69) + (e + 12 - 4 * ((0 + t / 69) % 3)) % 12
unfolding symbol_place
place_round t e = omega arith

-- a data symbol where its segment is written, and elsewhere
pub symbol_in_row : (segments : List (List ℤ)) (i : ℕ) (row : List ℤ) (d : ℕ) → i < length segments → d / 828 ≡ i
    → data_symbol (slice_set segments i row) d ≡ get_or row (4 + d % 828) (pos 0)
unfolding data_symbol
symbol_in_row segments i row d l e = grind (arith, get_or-set_same)

pub symbol_elsewhere : (segments : List (List ℤ)) (i : ℕ) (row : List ℤ) (d : ℕ) → d / 828 ≢ i
    → data_symbol (slice_set segments i row) d ≡ data_symbol segments d
unfolding data_symbol
symbol_elsewhere segments i row d n = grind (arith, get_or-set_other)

pub symbol_of_row : (segments : List (List ℤ)) (i d : ℕ) → d / 828 ≡ i
    → data_symbol segments d ≡ get_or (get_or segments i []) (4 + d % 828) (pos 0)
unfolding data_symbol
symbol_of_row segments i d e = ap (λ j. get_or (get_or segments j []) (4 + d % 828) (pos 0)) e

pub syncs_written : (old segments : List (List ℤ)) (i : ℕ) (row : List ℤ) → i < length segments
    → ((k : ℕ) → k < 4 → get_or row k (pos 0) ≡ get_or (get_or segments i []) k (pos 0))
    → KeepsSyncs old segments → KeepsSyncs old (slice_set segments i row)
syncs_written old segments i row l f h j k m = by_row (cases_eq j i)
  where
    by_row : (j ≡ i) ⊎ (j ≢ i)
        → get_or (get_or (slice_set segments i row) j []) k (pos 0) ≡ get_or (get_or old j []) k (pos 0)
    by_row (inr n) = ap (λ row. get_or row k (pos 0)) (get_or-set_other segments i j row [] n) ∙ h j k m
    by_row (inl e) = grind (arith, get_or-set_same)
