-- The packets of runs with the cadence marks of a feed (the profile's own). All of a packet is sent but its sync byte
-- (ATSC A/53 Part 2), so a mark isn't received. It is restored from the field syncs: a mark begins a first field.
use Rattle.std.specs.Prelude.{ℕ, ℤ, if◌then◌else◌, List, [], ◌++◌, length, map, option_to_list, slice_index_or}
use Rattle.std.specs.List.{range_with_len, flat_map, zip}
use Rattle.dtx_cadence.specs.Mark.{marked}
use Rattle.dtx_frame.specs.Detection.{looks_second}
use Rattle.dtx_receiver.specs.Bytes.{bytes_in}
use Rattle.dtx_receiver.specs.Packets.{run_packets, early_of}
use Rattle.dtx_receiver.specs.Runs.{tracked, runs}
use Rattle.dtx_receiver.specs.declared.batch.Received.{Received}

-- the place in its frame of the packet behind a field sync: a frame's first field has the packets 0 to 311, and its
-- second field those from 312 on
unfoldable pub place_behind : List ℤ → ℕ
place_behind sync = if looks_second sync then 312 else 0

-- a received packet with the sync byte of packet k of a feed
abbrev pub restored_one : ℕ → Received → Received
restored_one k r = record r { packet = record { 0 = marked k r.packet.0 } }

-- received packets in a row, with the sync bytes of a feed's packets from packet k on
unfoldable pub restored : ℕ → List Received → List Received
restored k packets = map (λ p. restored_one p.0 p.1) (zip (range_with_len k (length packets)) packets)

-- the place of a run's first packet, by the run's first field sync alone
abbrev pub first_place : List (List ℤ) → ℕ
first_place run = place_behind (slice_index_or run 0 [])

-- the packets of a run
unfoldable pub run_restored : List (List ℤ) → List Received
run_restored run = restored (first_place run) (run_packets (bytes_in run))

-- the packets that are given while the run is on
unfoldable pub early_restored : List (List ℤ) → List Received
early_restored run = restored (first_place run) (early_of (bytes_in run))

-- the packets of a list of segments, run after run
unfoldable pub all_restored : List (List ℤ) → List Received
all_restored segments = flat_map run_restored (runs segments)

-- the packets that are given before the list ends: those of the runs that have ended, and the early ones of the present
-- run
unfoldable pub restored_so_far : List (List ℤ) → List Received
restored_so_far segments =
    flat_map run_restored (tracked segments).ended ++ flat_map early_restored (option_to_list (tracked segments).run)
