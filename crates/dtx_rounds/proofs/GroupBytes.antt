-- The levels and the bytes of a field's groups, one behind the other.
use Rattle.std.proofs.Common.{◌≡◌, ℕ, ℤ, ◌+◌, ◌*◌, ◌<◌, List, [], ◌∷◌, ◌++◌, length, take, drop, get_or, set, sym, ap}
use Rattle.std.proofs.Common.{ap₂, ◌∙◌, arith}
use Rattle.std.specs.List.{flat_map}
use Rattle.std.proofs.lemmas.Grind.{flat_map-append}
use Rattle.std.proofs.lemmas.List.{append-nil, length-append, length-set, length-take-le, take-append-drop, take_at}
use Rattle.std.proofs.lemmas.List.{take_all, take_more, take_more_set}
use Rattle.std.proofs.Math.Seq.{take-add}
use Rattle.std.proofs.lemmas.List.FromFn.{fill_by_all, length-map-range_with_len}
use Rattle.dtx_trellis.specs.Trellis.{group_place}
use Rattle.dtx_slice.specs.Slicing.{sliced_data}
use Rattle.dtx_slice.specs.Unrolled.{byte_back, bytes_back, level_groups, precoder_bit, precoder_bits_after}
use Rattle.dtx_slice.proofs.JoinsLemmas.{bytes_append, groups_whole, precoder_bits_append}
use Rattle.dtx_slice.proofs.PlacesLemmas.{precoder_bit_zero}

-- with one segment more
pub flat_more : (f : List ℤ → List ℕ) (segments : List (List ℤ)) (i : ℕ) → i < length segments
    → flat_map f (take (i + 1) segments) ≡ flat_map f (take i segments) ++ f (get_or segments i [])
flat_more f segments i l =
    ap (flat_map f) (take_more segments i [] l) ∙ flat_map-append f (take i segments) (get_or segments i [] ∷ [])
    ∙ ap (λ xs. flat_map f (take i segments) ++ xs) (append-nil (f (get_or segments i [])))

-- levels of a segment are put behind those of the segments before it
pub levels_put : (n : ℕ) (old new more before : List ℕ) → length old ≡ 3312 → n < 4 → length more ≡ 828
    → new ≡ take (828 * n) old ++ more ++ drop (828 * n + 828) old → take (828 * n) old ≡ before
    → take (828 * (n + 1)) new ≡ before ++ more
levels_put n old new more before l small m e f = grind (arith, length-append, length-take-le, take_at)

-- ---- groups

-- how many bytes groups have
pub length_back : (s g : ℕ) (bits levels : List ℕ) → length levels ≡ 3312 * g
    → length (bytes_back s bits levels) ≡ 828 * g
unfolding bytes_back
length_back s g bits levels e = length-map-range_with_len (byte_back s bits levels) 0 (828 * level_groups levels)
    ∙ ap (λ n. 828 * n) (groups_whole g levels e)

-- the bytes of groups, one behind the other
abbrev flat : List (List ℕ) → List ℕ
flat groups = flat_map (λ group. group) groups

-- the levels of the first g groups of these data segments
abbrev levels_of : List (List ℤ) → ℕ → List ℕ
levels_of rows g = flat_map sliced_data (take (4 * g) rows)

-- The bytes of the first g groups of a field's data segments stand in `groups`, from these precoder bits on.
pub record AreWritten (rows : List (List ℤ)) (from : List ℕ) (g : ℕ) (bits : List ℕ) (groups : List (List ℕ))
    : Type 0 where
  pub room : length groups ≡ 78
  pub coders : length bits ≡ 12
  pub long : length (flat_map sliced_data (take (4 * g) rows)) ≡ 3312 * g
  pub bytes : flat_map (λ group. group) (take g groups)
      ≡ bytes_back 0 from (flat_map sliced_data (take (4 * g) rows))
  pub precoder_bits : bits ≡ precoder_bits_after 0 from (flat_map sliced_data (take (4 * g) rows))

-- no group leaves the precoder bits
pub bits_none : (from : List ℕ) → length from ≡ 12 → from ≡ precoder_bits_after 0 from []
unfolding level_groups precoder_bits_after
bits_none from coders =
    fill_by_all (precoder_bit 0 from [] 0) from 12 0 coders (λ e l. sym (precoder_bit_zero 0 e from []))

pub written_none : (rows : List (List ℤ)) (from : List ℕ) (groups : List (List ℕ)) → length groups ≡ 78
    → length from ≡ 12 → AreWritten rows from 0 from groups
unfolding bytes_back level_groups
written_none rows from groups room coders = grind (arith, bits_none)

in_field : (g : ℕ) → g < 78 → group_place 0 g ≡ 4 * g
unfolding group_place
in_field g l = omega arith

-- with one group more
pub written_next : (rows segments : List (List ℤ)) (from : List ℕ) (g : ℕ) (bits new group : List ℕ)
    (groups : List (List ℕ)) → AreWritten rows from g bits groups → g < 78 → take 4 (drop (4 * g) rows) ≡ segments
    → group ≡ bytes_back (4 * g) bits (flat_map sliced_data segments)
    → new ≡ precoder_bits_after (4 * g) bits (flat_map sliced_data segments) → length new ≡ 12
    → length (flat_map sliced_data segments) ≡ 3312 → AreWritten rows from (g + 1) new (set groups g group)
written_next rows segments from g bits new group groups h l part bytes precoder coders long = record {
  room = length-set groups g group ∙ h.room;
  coders = coders;
  long = ap length levels
      ∙ length-append (levels_of rows g) (flat_map sliced_data segments) ∙ omega (arith, h.long, long);
  bytes = ap flat (take_more_set groups g group (omega (arith, l, h.room)))
      ∙ flat_map-append (λ (xs : List ℕ). xs) (take g groups) (group ∷ [])
      ∙ ap₂ (λ (xs ys : List ℕ). xs ++ ys) h.bytes (append-nil group ∙ bytes
      ∙ ap₂ (λ s b. bytes_back s b (flat_map sliced_data segments)) (sym (in_field g l)) h.precoder_bits)
      ∙ sym (ap (bytes_back 0 from) levels
      ∙ bytes_append 0 g from (levels_of rows g) (flat_map sliced_data segments) h.long);
  precoder_bits = precoder
      ∙ ap₂ (λ s b. precoder_bits_after s b (flat_map sliced_data segments)) (sym (in_field g l)) h.precoder_bits
      ∙ sym (ap (precoder_bits_after 0 from) levels
      ∙ precoder_bits_append 0 g from (levels_of rows g) (flat_map sliced_data segments) h.long);
}
  where
    levels : levels_of rows (g + 1) ≡ levels_of rows g ++ flat_map sliced_data segments
    levels = ap (λ n. flat_map sliced_data (take n rows)) (omega arith)
        ∙ ap (flat_map sliced_data) (take-add (4 * g) 4 rows ∙ ap (λ xs. take (4 * g) rows ++ xs) part)
        ∙ flat_map-append sliced_data (take (4 * g) rows) segments

-- all groups
pub written_all : (rows : List (List ℤ)) (from : List ℕ) (g : ℕ) (bits : List ℕ) (groups : List (List ℕ))
    → AreWritten rows from g bits groups → length rows ≡ 4 * g
    → take (207 * length rows) (flat_map (λ group. group) groups) ≡ bytes_back 0 from (flat_map sliced_data rows)
written_all rows from g bits groups h e = ap (take (207 * length rows)) (ap flat (sym (take-append-drop g groups))
    ∙ flat_map-append (λ (xs : List ℕ). xs) (take g groups) (drop g groups))
    ∙ take_at (flat (take g groups)) (flat (drop g groups)) (207 * length rows) long
    ∙ h.bytes ∙ ap (λ xs. bytes_back 0 from (flat_map sliced_data xs)) (take_all (4 * g) rows (omega (arith, e)))
  where
    long : length (flat (take g groups)) ≡ 207 * length rows
    long = ap length h.bytes ∙ length_back 0 g from (levels_of rows g) h.long ∙ (omega (arith, e))
