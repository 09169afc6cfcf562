-- Where a capture agrees with a field sync, by the signs of its symbols (the profile's own; ATSC A/53 Part 2, data
-- field sync). Also tests of places, and signs packed into words.
use Rattle.std.specs.Prelude.{ℕ, ℤ, pos, ◌+◌, ◌&&◌, int_lt, nat_le, Bool, false, not, if◌then◌else◌, Option, List}
use Rattle.std.specs.Prelude.{length, map, sum, slice_index_or, ◌≡◌, ◌-◌, ◌<◌, ◌*◌, [], ◌∷◌, take, drop, slice_index}
use Rattle.std.specs.List.{range_with_len, find}
use Rattle.dtx_frame.specs.Segments.{sync_symbols}

-- a place passes only where a whole segment stands
abbrev pub NeedsSegment : (List ℤ → ℕ → Bool) → Type 0
NeedsSegment passes = (symbols : List ℤ) (place : ℕ) → length symbols < place + 832 → passes symbols place ≡ false

-- the least place from this one on that passes
unfoldable pub first_place : (List ℤ → ℕ → Bool) → List ℤ → ℕ → Option ℕ
first_place passes symbols place = find (passes symbols) (range_with_len place (length symbols - place))

-- whether a symbol has the sign plus: whether it is above 0
abbrev pub is_plus : ℤ → Bool
is_plus symbol = int_lt (pos 0) symbol

-- whether two signs are unlike
abbrev pub are_unlike : Bool → Bool → Bool
are_unlike a b = if a then not b else b

-- whether symbol i of the sync of a first field has the sign plus
unfoldable pub sync_sign : ℕ → Bool
sync_sign i = is_plus (slice_index_or (sync_symbols false) i (pos 0))

-- 1 if symbol i after this place has another sign than symbol i of a first field's sync, and otherwise 0
unfoldable pub unlike_at : List ℤ → ℕ → ℕ → ℕ
unlike_at symbols place i = if are_unlike (is_plus (slice_index_or symbols (place + i) (pos 0))) (sync_sign i)
    then 1 else 0

-- how many of `count` symbols from symbol i after this place on have another sign
unfoldable pub unlike : List ℤ → ℕ → ℕ → ℕ → ℕ
unlike symbols place i count = sum (map (unlike_at symbols place) (range_with_len i count))

-- A place agrees if a whole segment stands there, and at most 128 of its first 515 symbols have another sign. The signs
-- are those of the segment sync and the long sequence (PN511).
unfoldable pub agrees : List ℤ → ℕ → Bool
agrees symbols place = nat_le (place + 832) (length symbols) && nat_le (unlike symbols place 0 515) 128

-- the least place from this one on that agrees
abbrev pub least_from : List ℤ → ℕ → Option ℕ
least_from symbols place = first_place agrees symbols place

-- A sync is of a second field if at least 32 of the 63 symbols of its middle short sequence have another sign than in a
-- first field.
unfoldable pub is_second : List ℤ → Bool
is_second segment = nat_le 32 (unlike segment 0 578 63)

-- the signs of symbols as the bits of a number: the first sign is the lowest bit, and 1 is plus
abbrev pub packed : List ℤ → ℕ
packed [] = 0
packed (x ∷ xs) = (if is_plus x then 1 else 0) + 2 * packed xs

-- ten words that hold the signs of the symbols from this place on
abbrev pub ArePacked : List ℕ → List ℤ → ℕ → Type 0
ArePacked words symbols place = (k : ℕ) → k < 10
    → slice_index words k ≡ packed (take 64 (drop (place + 64 * k) symbols))
