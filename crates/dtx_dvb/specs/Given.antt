-- What a block gives, from what was gathered for it.
use Rattle.std.specs.Prelude.{ℕ, ◌*◌, ◌/◌, ◌%◌, List, [], ◌∷◌, length, slice_index_or}
use Rattle.std.specs.List.{range_with_len, flat_map}
use Rattle.dtx_outer.specs.declared.inner.Taken.{Taken}
use Rattle.dtx_outer.specs.declared.inner.Taken.TheVariants.{None, Good, Bad}
use Rattle.dtx_packets.specs.Packets.{with_error}
use Rattle.dtx_dvb.specs.Read.{Read}
use Rattle.dtx_dvb.specs.Reading.{with_sync}

-- the packet, or none
abbrev pub given : Taken → List ℕ → List Read
given None packet = []
given (Good fixed) packet = record { taken = Good fixed; packet = packet } ∷ []
given Bad packet = record { taken = Bad; packet = packet } ∷ []

-- the packet's bytes with its sync byte, and with the error indicator where its word has no correction
abbrev pub finished : Taken → List ℕ → List ℕ
finished None bytes = bytes
finished (Good fixed) bytes = with_sync bytes
finished Bad bytes = with_sync (with_error bytes)

-- what block p of a batch gave, whose packets and answers come in fours
abbrev pub given_in : List (List Taken) → List (List (List ℕ)) → ℕ → List Read
given_in taken packets p =
    given (slice_index_or (slice_index_or taken (p / 4) []) (p % 4) None)
    (slice_index_or (slice_index_or packets (p / 4) []) (p % 4) [])

-- what the blocks of a batch gave, one after another
unfoldable pub all_given : List (List Taken) → List (List (List ℕ)) → List Read
all_given taken packets = flat_map (given_in taken packets) (range_with_len 0 (4 * length packets))
