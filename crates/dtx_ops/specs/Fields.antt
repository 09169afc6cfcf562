-- The fields in the 164 data bytes of an operations packet, of either kind (the profile's own). Numbers are big-endian.
use Rattle.std.specs.Prelude.{ℕ, ◌+◌, ◌-◌, ◌*◌, ◌/◌, ◌%◌, ◌^◌, ◌==◌, if◌then◌else◌, List, map, drop, slice_index}
use Rattle.std.specs.Int.{w16, cast_signed}
use Rattle.std.specs.List.{range_with_len}
use Rattle.byteorder.specs.Endian.{big_number}
use Rattle.dtx_ops.specs.declared.fields.Entry.{Entry}
use Rattle.dtx_ops.specs.declared.fields.Ops.{Ops}
use Rattle.dtx_ops.specs.declared.paging.Paging.{Paging}
use Rattle.dtx_ops.specs.declared.paging.Paging.TheVariants.{One, Of}
use Rattle.dtx_ops.specs.Paging.{count_place}

-- the twelve states in a number of forty bits: that of coder e is its bits 39 - 3 e to 37 - 3 e
unfoldable pub states_at : ℕ → List ℕ
states_at number = map (λ e. number / 2 ^ (37 - 3 * e) % 8) (range_with_len 0 12)

-- the states are in bytes 1 to 5
unfoldable pub states_in : List ℕ → List ℕ
states_in bytes = states_at (big_number 5 (drop 1 bytes))

-- the stamp is in bytes 6 to 8
unfoldable pub stamp_in : List ℕ → ℕ
stamp_in bytes = big_number 3 (drop 6 bytes)

-- the maximum delay is in bytes 9 to 11
unfoldable pub max_delay_in : List ℕ → ℕ
max_delay_in bytes = big_number 3 (drop 9 bytes)

-- the frame is in bytes 12 to 15
unfoldable pub frame_in : List ℕ → ℕ
frame_in bytes = big_number 4 (drop 12 bytes)

-- the index is in bytes 16 and 17
unfoldable pub index_in : List ℕ → ℕ
index_in bytes = big_number 2 (drop 16 bytes)

-- kind 2 has the page in byte 18 and the number of pages in byte 19
unfoldable pub paging_in : List ℕ → Paging
paging_in bytes = if slice_index bytes 0 == 2 then Of (slice_index bytes 18) (slice_index bytes 19) else One

-- the count of entries is byte 18 in kind 1 and byte 20 in kind 2
unfoldable pub count_in : List ℕ → ℕ
count_in bytes = slice_index bytes (count_place (paging_in bytes))

-- the bytes behind the count
unfoldable pub behind_count : List ℕ → List ℕ
behind_count bytes = drop (count_place (paging_in bytes) + 1) bytes

-- the entry in four bytes: the address, and then the offset in two's complement
unfoldable pub entry_in : List ℕ → Entry
entry_in bytes = record { address = big_number 2 bytes; offset = cast_signed w16 (big_number 2 (drop 2 bytes)) }

-- the first `count` entries, one behind the other
unfoldable pub entries_in : ℕ → List ℕ → List Entry
entries_in count bytes = map (λ i. entry_in (drop (4 * i) bytes)) (range_with_len 0 count)

-- all fields
unfoldable pub fields : List ℕ → Ops
fields bytes = record {
  states = states_in bytes;
  stamp = stamp_in bytes;
  max_delay = max_delay_in bytes;
  frame = frame_in bytes;
  index = index_in bytes;
  paging = paging_in bytes;
  offsets = record { items = entries_in (count_in bytes) (behind_count bytes) };
}
