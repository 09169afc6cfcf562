-- Which bytes of a run are missing (the profile's own). A symbol of value -128 says that nothing was received there.
use Rattle.std.specs.Prelude.{◌≡◌, ℕ, ℤ, pos, negsuc, ◌+◌, ◌-◌, ◌*◌, ◌/◌, ◌%◌, ◌==◌, ◌||◌, Bool, true, false}
use Rattle.std.specs.Prelude.{if◌then◌else◌, List, [], length, map, drop, slice_index_or}
use Rattle.std.specs.List.{range_with_len, flat_map, AllByRecursion}
use Rattle.dtx_slice.specs.Unrolled.{symbol_place, coder_of}
use Rattle.dtx_receiver.specs.Bytes.{data_at, groups_of, bytes_in}

-- whether nothing was received of a symbol
abbrev pub is_missing : ℤ → Bool
is_missing (pos n) = false
is_missing (negsuc n) = n == 127

-- for each data symbol of a run's whole groups, in order, whether nothing was received of it
unfoldable pub missing_in : List (List ℤ) → List Bool
missing_in run = flat_map (λ d. map is_missing (drop 4 (data_at run d))) (range_with_len 0 (4 * groups_of run))

-- Whether nothing was received of the symbol of coder e before its round r. Before round 0 this is one of the last
-- twelve symbols of the run's first field sync, where number q is of coder (q + 8) mod 12. Later field syncs count for
-- nothing.
unfoldable pub was_missing : List (List ℤ) → ℕ → ℕ → Bool
was_missing run r e =
    if r == 0
    then slice_index_or (map is_missing (drop 820 (slice_index_or run 0 []))) ((e + 4) % 12) false
    else slice_index_or (missing_in run) (symbol_place 0 (r - 1) e) false

-- Byte j of a run is marked where the symbol of one of its four pairs is missing, or the one of its coder before them.
-- The earlier one matters since the bit X2 of a pair is decoded from Z2 of two symbols in a row.
unfoldable pub is_marked : List (List ℤ) → ℕ → Bool
is_marked run j =
    let r : ℕ = 4 * (j / 12) in
    let e : ℕ = coder_of 0 j in
    was_missing run r e || (was_missing run (r + 1) e || (was_missing run (r + 2) e || (was_missing run (r + 3) e
    || was_missing run (r + 4) e)))

-- for each of the bytes of a run's whole groups, whether it is marked
unfoldable pub marks_in : List (List ℤ) → List Bool
marks_in run = map (is_marked run) (range_with_len 0 (length (bytes_in run)))

-- A symbol as its mark: 7, of level 7, where it is missing, else -7, of level 0. A byte of a run of these symbols is 0
-- exactly where the run's byte isn't marked. So the marks are decoded as bytes are.
abbrev pub shown : ℤ → ℤ
shown symbol = if is_missing symbol then pos 7 else negsuc 6

-- a run as its marks
abbrev pub shown_run : List (List ℤ) → List (List ℤ)
shown_run run = map (map shown) run

-- whether a byte of a run of marks is a mark
abbrev pub is_set : ℕ → Bool
is_set flag = if flag == 0 then false else true

-- no symbol of a segment is missing; `AllThere` says it of each segment of a list
abbrev pub AreThere : List ℤ → Type 0
AreThere segment = AllByRecursion (λ symbol. is_missing symbol ≡ false) segment

abbrev pub AllThere : List (List ℤ) → Type 0
AllThere segments = AllByRecursion (λ segment. AreThere segment) segments
