-- What a place of a capture shows: how its symbols agree with a field sync, and at what gain and with what constant
-- they stand (the profile's own; ATSC A/53 Part 2, data field sync).
use Rattle.std.specs.Prelude.{ℕ, ℤ, pos, nat_abs, ◌≤◌, ◌+◌, ◌+ℤ◌, ◌-ℤ◌, ◌*ℤ◌, ◌&&◌, ◌||◌, int_lt, nat_le, Bool}
use Rattle.std.specs.Prelude.{true, false}
use Rattle.std.specs.Prelude.{if◌then◌else◌, Option, List, [], ◌∷◌, length, map, slice_index_or}
use Rattle.std.specs.List.{range_with_len}
use Rattle.dtx_acquire.specs.Agreement.{are_unlike, sync_sign, unlike, first_place}

-- the sum of numbers
abbrev pub total : List ℤ → ℤ
total [] = pos 0
total (x ∷ xs) = x +ℤ total xs

-- symbol i behind a place, where symbol i of the sync has this sign, else 0
unfoldable pub counted_at : Bool → List ℤ → ℕ → ℕ → ℤ
counted_at plus symbols place i =
    if are_unlike (sync_sign i) plus then pos 0 else slice_index_or symbols (place + i) (pos 0)

-- The sum of those of the first `count` symbols behind a place that stand where the sync has this sign.
unfoldable pub sum_where : Bool → List ℤ → ℕ → ℕ → ℤ
sum_where plus symbols place count = total (map (counted_at plus symbols place) (range_with_len 0 count))

-- The gain that a place shows. Of the first 515 symbols of a field sync, 258 are +5 and 257 are -5. Let a be the sum of
-- the capture's symbols where the sync has +5, and b where it has -5. Then the gain is 257 * a - 258 * b. (Where each
-- symbol s stands as u * s + c, it is 10 * u * 258 * 257.)
unfoldable pub gain : List ℤ → ℕ → ℤ
gain symbols place = pos 257 *ℤ sum_where true symbols place 515 -ℤ pos 258 *ℤ sum_where false symbols place 515

-- The constant that a place shows: 257 * a + 258 * b. (Where each symbol s stands as u * s + c, it is 2 * c * 258 *
-- 257.)
unfoldable pub constant : List ℤ → ℕ → ℤ
constant symbols place = pos 257 *ℤ sum_where true symbols place 515 +ℤ pos 258 *ℤ sum_where false symbols place 515

-- bounds of the gain and the constant, whatever signed bytes the symbols are
abbrev pub IsBounded : ℤ → Type 0
IsBounded x = nat_abs x ≤ 33948800

-- `count` other signs among 515 show a sync at this gain. They must be few where the gain is above 0, and most where it
-- is below, since the capture is turned then.
abbrev pub are_shown : ℕ → ℤ → Bool
are_shown count g = (nat_le count 128 && int_lt (pos 0) g) || (nat_le 387 count && int_lt g (pos 0))

-- A place shows a sync where a whole segment stands there, and its first 515 symbols show one.
unfoldable pub shows : List ℤ → ℕ → Bool
shows symbols place =
    nat_le (place + 832) (length symbols) && are_shown (unlike symbols place 0 515) (gain symbols place)

-- the least place from one on that shows a sync
abbrev pub least_shown : List ℤ → ℕ → Option ℕ
least_shown symbols place = first_place shows symbols place
