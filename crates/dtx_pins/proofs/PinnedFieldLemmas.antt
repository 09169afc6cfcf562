-- Segments in which each coder's symbols were replaced: no others are so decided, and the function gives them at the
-- scale of what was heard. What they cost, and their levels.
use Rattle.std.proofs.Common.{◌≡◌, ℕ, ℤ, pos, ◌+◌, ◌-◌, ◌*◌, ◌/◌, ◌<◌, ◌≤◌, List, [], length, map, get_or, sym, ap, ◌∙◌}
use Rattle.std.proofs.Common.{refl, subst, arith}
use Rattle.std.proofs.lemmas.List.{get_or-map, length-map}
use Rattle.dtx_lists.proofs.Range.{map-range_same}
use Rattle.dtx_trellis.specs.Trellis.{coder_at}
use Rattle.dtx_soft.specs.Coders.{coder_symbols, coders_distance}
use Rattle.dtx_soft.specs.Paths.{cost, symbol_at}
use Rattle.dtx_soft.proofs.LeastPathLemmas.{path_small}
use Rattle.dtx_soft.proofs.SoftenedLemmas.{data_given, given, given_coder, given_is, given_syncs, length-coder}
use Rattle.dtx_soft.proofs.SoftenedLemmas.{length-given}
use Rattle.dtx_pins.specs.LeastPinned.{IsLeastPinned, least_pinned_levels, least_pinned_start}
use Rattle.dtx_pins.specs.PinnedField.{AreLeastPinned, IsPinned, pinned, pinned_coder_cost, pinned_cost, pinned_segment}
use Rattle.dtx_pins.specs.PinnedField.{pinned_symbol, pinned_symbols}
use Rattle.dtx_pins.specs.Pins.{coder_pins}
use Rattle.dtx_pins.proofs.LeastPinnedLemmas.{least_pinned_found, least_pinned_levels_are}

-- the symbols of coder e's least path under its pins, at the scale `at`
unfoldable path_symbols : ℕ → ℕ → List (List ℕ) → List (List ℤ) → ℕ → List ℤ
path_symbols scale at pins heard e =
    map (symbol_at at) (least_pinned_levels scale (coder_pins pins e) (coder_symbols heard e))

path_levels : (scale at : ℕ) (pins : List (List ℕ)) (heard : List (List ℤ)) (e : ℕ) → path_symbols scale at pins heard e
    ≡ map (symbol_at at) (least_pinned_levels scale (coder_pins pins e) (coder_symbols heard e))
unfolding path_symbols
path_levels scale at pins heard e = refl

-- the symbols of a least path are those of the function
path_symbols_are : (scale at : ℕ) (pins : List (List ℕ)) (heard : List (List ℤ)) (e : ℕ) (new : List ℤ)
    → AreLeastPinned scale at (coder_pins pins e) (coder_symbols heard e) new → new ≡ path_symbols scale at pins heard e
unfolding path_symbols
path_symbols_are scale at pins heard e new h = grind (arith, least_pinned_levels_are)

entries_are : (scale at : ℕ) (pins : List (List ℕ)) (heard old new : List (List ℤ))
    → IsPinned scale at pins heard old new → ((i : ℕ) → i < length new → length (get_or new i []) ≡ 832)
    → new ≡ given (path_symbols scale at pins heard) old
entries_are scale at pins heard old new h = grind (arith, given_is, path_symbols_are)

-- no two lists of segments of 832 symbols are so decided
pub one_decision : (scale at : ℕ) (pins : List (List ℕ)) (heard old new other : List (List ℤ))
    → IsPinned scale at pins heard old new → IsPinned scale at pins heard old other
    → ((i : ℕ) → i < length new → length (get_or new i []) ≡ 832)
    → ((i : ℕ) → i < length other → length (get_or other i []) ≡ 832) → new ≡ other
one_decision scale at pins heard old new other h o rows others =
    entries_are scale at pins heard old new h rows ∙ sym (entries_are scale at pins heard old other o others)

-- segments of 832 symbols that were decided, at the scale of what was heard
pinned_given : (scale : ℕ) (pins : List (List ℕ)) (segments : List (List ℤ))
    → given (path_symbols scale scale pins segments) segments ≡ pinned scale pins segments
unfolding given pinned pinned_segment pinned_symbol pinned_symbols path_symbols
pinned_given scale pins segments = refl

pub pinned_is : (scale : ℕ) (pins : List (List ℕ)) (old new : List (List ℤ)) → IsPinned scale scale pins old old new
    → ((i : ℕ) → i < length new → length (get_or new i []) ≡ 832) → new ≡ pinned scale pins old
pinned_is scale pins old new h rows = entries_are scale scale pins old old new h rows ∙ pinned_given scale pins old

pub pinned_found : (scale : ℕ) (pins : List (List ℕ)) (segments : List (List ℤ)) → IsPinned scale scale pins segments
    segments (pinned scale pins segments)
pinned_found scale pins segments =
    subst (IsPinned scale scale pins segments segments) (pinned_given scale pins segments) (record {
      long = length-given (path_symbols scale scale pins segments) segments;
      syncs = given_syncs (path_symbols scale scale pins segments) segments;
      coders = λ e l. record {
        start = least_pinned_start scale (coder_pins pins e) (coder_symbols segments e);
        levels = least_pinned_levels scale (coder_pins pins e) (coder_symbols segments e);
        least = least_pinned_found scale (coder_pins pins e) (coder_symbols segments e);
        symbols = grind (arith, given_coder, long, path_levels);
      };
    })
  where
    long : (e : ℕ) → length (path_symbols scale scale pins segments e) ≡ 69 * length segments
    long e = ap length (path_levels scale scale pins segments e)
        ∙ length-map (least_pinned_levels scale (coder_pins pins e) (coder_symbols segments e)) (symbol_at scale)
        ∙ (least_pinned_found scale (coder_pins pins e) (coder_symbols segments e)).long ∙ length-coder segments e

-- ---- the levels

-- as many segments are decided as were heard
length-heard : (scale at : ℕ) (pins : List (List ℕ)) (heard old new : List (List ℤ))
    → IsPinned scale at pins heard old new → length new ≡ length heard
length-heard scale at pins heard old new h = grind (arith, length-coder, length-map)

-- The levels that are decided: at scale 1 they have the symbols that the decoder writes, and at the scale of what was
-- heard those that `pinned` gives.
pub pinned_level : (scale : ℕ) (pins : List (List ℕ)) (heard old new : List (List ℤ)) (i k : ℕ)
    → IsPinned scale 1 pins heard old new → i < length new → 4 ≤ k → k < 832
    → (z : ℕ) × (z < 8) × (get_or (get_or (pinned scale pins heard) i []) k (pos 0) ≡ symbol_at scale z)
    × (get_or (get_or new i []) k (pos 0) ≡ symbol_at 1 z)
pinned_level scale pins heard old new i k h l n m = (
  level,
  path_small (least_pinned_start scale (coder_pins pins e) (coder_symbols heard e)) levels least.path (d / 12) within,
  data_given (path_symbols scale scale pins heard) (pinned scale pins heard) i k
      (λ e l. path_symbols_are scale scale pins heard e _ ((pinned_found scale pins heard).coders e l))
      (omega (arith, many, (pinned_found scale pins heard).long)) n m ∙ at scale,
  data_given (path_symbols scale 1 pins heard) new i k
      (λ e l. path_symbols_are scale 1 pins heard e _ (h.coders e l)) l n m ∙ at 1,
)
  where
    d : ℕ
    d = 828 * i + (k - 4)

    e : ℕ
    e = coder_at 0 d

    levels : List ℕ
    levels = least_pinned_levels scale (coder_pins pins e) (coder_symbols heard e)

    level : ℕ
    level = get_or levels (d / 12) 0

    many : length new ≡ length heard
    many = length-heard scale 1 pins heard old new h

    least : IsLeastPinned scale (coder_pins pins e) (coder_symbols heard e)
        (least_pinned_start scale (coder_pins pins e) (coder_symbols heard e)) levels
    least = least_pinned_found scale (coder_pins pins e) (coder_symbols heard e)

    within : d / 12 < length levels
    within =
        let long = least.long ∙ length-coder heard e in
        omega (arith, long, many)

    at : (wide : ℕ) → get_or (path_symbols scale wide pins heard (coder_at 0 d)) (d / 12) (pos 0) ≡ symbol_at wide level
    at wide = rw (path_levels scale wide pins heard e, get_or-map (symbol_at wide) levels (d / 12) 0 (pos 0) within)

-- ---- what it costs

-- how far the symbols are off those that were heard is what the least paths cost
pub pinned_cost_is : (scale : ℕ) (pins : List (List ℕ)) (heard old new : List (List ℤ))
    → IsPinned scale scale pins heard old new → coders_distance heard new 12 ≡ pinned_cost scale pins heard
unfolding coders_distance pinned_cost pinned_coder_cost cost path_symbols
pinned_cost_is scale pins heard old new h = grind (arith, map-range_same, path_symbols_are)
