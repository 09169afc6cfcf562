-- Which packets of a run are marks, and the packets of a feed that are received.
use Rattle.std.specs.Prelude.{ℕ, ℤ, ◌≡◌, ◌-◌, ◌<◌, ◌/◌, ◌%◌, ◌==◌, ◌&&◌, not, Bool, if◌then◌else◌, List, [], ◌∷◌}
use Rattle.std.specs.Prelude.{length, drop, slice_index_or}
use Rattle.dtx_cadence.specs.Mark.{sync_at}
use Rattle.dtx_frame.specs.Detection.{opposites}

-- whether field n of a run is a second one, given whether its first field is one: the fields alternate
abbrev pub is_second_field : Bool → ℕ → Bool
is_second_field first_is n = if n % 2 == 0 then first_is else not first_is

-- packet k of a run is a mark: it begins a field, and that is a first one
abbrev pub is_mark : Bool → ℕ → Bool
is_mark first_is_second k = (k % 312 == 0) && not (is_second_field first_is_second (k / 312))

-- how many signs of the middle short sequence are wrong in a field sync of a first or a second field: in the second one
-- the whole sequence is inverted
abbrev pub wrong_signs : Bool → List ℤ → ℕ
wrong_signs second segment = if second then 63 - opposites segment else opposites segment

-- each packet k of a list begins with the sync byte of packet k of a feed
abbrev pub HasSyncs : List (List ℕ) → Type 0
HasSyncs feed = (k : ℕ) → k < length feed → slice_index_or feed k [] ≡ sync_at k ∷ drop 1 (slice_index_or feed k [])

-- a packet whose sync byte isn't known
abbrev pub without_mark : List ℕ → List ℕ
without_mark packet = 0x47 ∷ drop 1 packet
