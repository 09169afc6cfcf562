-- The sync bytes of the packets of a feed.
use Rattle.std.specs.Prelude.{ℕ, ◌%◌, ◌==◌, if◌then◌else◌, List, slice_set}

-- the sync byte of packet k of a feed: a mark where 624 divides k (the profile's own)
abbrev pub sync_at : ℕ → ℕ
sync_at k = if k % 624 == 0 then 0xB8 else 0x47

-- a packet with the sync byte of packet k of a feed, and its other bytes as they are
abbrev pub marked : ℕ → List ℕ → List ℕ
marked k packet = slice_set packet 0 (sync_at k)
