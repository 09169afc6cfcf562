-- The walk on through a segment, whose data symbols become those of the least paths.
use Rattle.std.proofs.Common.{◌≡◌, ℕ, ℤ, pos, ◌+◌, ◌*◌, ◌/◌, ◌%◌, ◌<◌, ◌≤◌, List, [], length, take, drop, get_or}
use Rattle.std.proofs.Common.{slice_set, refl, sym, ap, ◌∙◌, subst, arith}
use Rattle.std.proofs.lemmas.List.{get_or-set_same, get_or-set_other, length-set}
use Rattle.dtx_soft.specs.Coders.{coder_symbols}
use Rattle.dtx_soft.proofs.SoftenedLemmas.{length-coder}
use Rattle.dtx_pins.specs.declared.start.Stands.{Stands}
use Rattle.dtx_pins.specs.Pins.{coder_pins}
use Rattle.dtx_pins.specs.Trace.{AreTraced, stand_at, turned_place}
use Rattle.dtx_pins.specs.Walks.{AreWalked, IsMark}
use Rattle.dtx_pins.proofs.PinnedTraces.{IsUnderWay, goes_elsewhere, goes_on}
use Rattle.dtx_pins.proofs.SegmentRows.{part_row, symbol_in_segment}

-- the symbols of the segments before stay
symbol_before : (segments : List (List ℤ)) (i e k : ℕ) (row : List ℤ) → i < length segments → k < 69 * i
    → get_or (coder_symbols (slice_set segments i row) e) k (pos 0) ≡ get_or (coder_symbols segments e) k (pos 0)
symbol_before segments i e k row l m =
    ap (λ k. get_or (coder_symbols (slice_set segments i row) e) k (pos 0)) (sym place)
    ∙ symbol_in_segment (slice_set segments i row) (k / 69 % 3) (k / 69) (k % 69) e
    (omega (arith, l, m, length-set segments i row)) (omega arith) refl
    ∙ grind (arith, get_or-set_other, symbol_in_segment, place)
  where
    place : 69 * (k / 69) + k % 69 ≡ k
    place = omega arith

-- a coder's path, one segment further
pub segment_traced : (scale i n : ℕ) (pins marks : List (List ℕ)) (heard decided : List (List ℤ)) (path row : List ℤ)
    (sums : ℕ → List (List ℕ)) (old new : Stands) → n ≡ 69 → i < length heard → length decided ≡ length heard
    → AreWalked scale 0 pins heard sums marks
    → AreTraced scale (i % 3) 69 (take n (drop (69 * i) marks)) (get_or heard i []) path old new
    → ((k : ℕ) → 4 ≤ k → get_or row k (pos 0) ≡ get_or path k (pos 0)) → (e : ℕ) → e < 12
    → IsUnderWay scale (coder_pins pins e) (coder_symbols heard e) (coder_symbols decided e) (69 * i) (stand_at old e)
    → IsUnderWay scale (coder_pins pins e) (coder_symbols heard e) (coder_symbols (slice_set decided i row) e)
    (69 * (i + 1)) (stand_at new e)
segment_traced scale i n pins marks heard decided path row sums old new whole l same walked traced kept e m u =
    subst (λ t. IsUnderWay scale (coder_pins pins e) (coder_symbols heard e) (coder_symbols rows e) t (stand_at new e))
    next (goes_on scale (coder_pins pins e) (coder_symbols heard e) (coder_symbols rows e) (69 * i)
    (λ r. get_or (get_or heard i []) (turned_place (i % 3) r e) (pos 0))
    (λ r. get_or (get_or (take n (drop (69 * i) marks)) r []) e 0)
    (λ r. get_or path (turned_place (i % 3) r e) (pos 0)) 69 (stand_at old e) (stand_at new e)
    (omega (arith, l, length-coder heard e)) (λ r k. symbol_in_segment heard (i % 3) i r e l k refl) here mark
    (traced.traced e m)
    (goes_elsewhere scale (coder_pins pins e) (coder_symbols heard e) (coder_symbols decided e) (coder_symbols rows e)
    (69 * i) (stand_at old e) (λ k o. symbol_before decided i e k row (omega (arith, l, same)) o) u))
  where
    rows : List (List ℤ)
    rows = slice_set decided i row

    next : 69 * i + 69 ≡ 69 * (i + 1)
    next = omega arith

    here : (r : ℕ) → r < 69 → get_or (coder_symbols rows e) (69 * i + r) (pos 0)
        ≡ get_or path (turned_place (i % 3) r e) (pos 0)
    here r k = symbol_in_segment rows (i % 3) i r e (omega (arith, l, same, length-set decided i row)) k refl
        ∙ ap (λ row. get_or row (turned_place (i % 3) r e) (pos 0))
        (get_or-set_same decided i row [] (omega (arith, l, same))) ∙ kept (turned_place (i % 3) r e) (omega arith)

    mark : (r : ℕ) → r < 69 → IsMark scale (coder_pins pins e) (coder_symbols heard e) (69 * i + r)
        (get_or (get_or (take n (drop (69 * i) marks)) r []) e 0)
    mark r k = grind (arith, part_row)
