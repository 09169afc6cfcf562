-- The files of `trial SEED COUNT` after it (the symbols are those of ATSC A/53 Part 2; the feed and the logs are the
-- profile's own, in the manner of ATSC A/110). Packets are counted from 0.
use Rattle.std.specs.Prelude.{◌≡◌, ℕ, ◌+◌, ◌-◌, ◌*◌, ◌/◌, ◌%◌, ◌==◌, ℤ, pos, negsuc, if◌then◌else◌, Some, None, List}
use Rattle.std.specs.Prelude.{[], codes, drop, flat_map, map, slice_index_or}
use Rattle.std.specs.FinMap.{get}
use Rattle.std.specs.List.{range_with_len}
use Rattle.dtx_adapter.specs.Feed.{feed}
use Rattle.dtx_chain.specs.Damage.{as_received}
use Rattle.dtx_clock.specs.Clock.{moment_of, stamp_of}
use Rattle.dtx_clock.specs.declared.answers.Moment.{Moment}
use Rattle.dtx_coder.specs.Stream.{a53}
use Rattle.dtx_exciter.specs.Log.{Line, preset}
use Rattle.dtx_files.specs.LogText.{log_text}
use Rattle.dtx_files.specs.Symbols.{segment_bytes}
use Rattle.dtx_make.specs.Made.{made_stream}
use Rattle.dtx_outside.specs.Shelf.{Files}
use Rattle.dtx_plan.specs.declared.plan.Plan.{Plan}
use Rattle.dtx_top.specs.Trial.{trial_transmitters}
use Rattle.dtx_top.specs.WorkedNetwork.{made_packets}

-- what a feed takes from the plan of a trial: the transmitters 1, 2 and 3, with the offsets 0, 25 and -10 ticks
abbrev pub feed_plan : Plan
feed_plan = record { start = 0; max_delay = 5000000; transmitters = trial_transmitters; net = None }

-- the feed of the made stream
abbrev pub trial_feed : ℕ → ℕ → List (List ℕ)
trial_feed seed count = feed feed_plan (made_packets seed count)

-- The symbols of that feed, one byte each, from the group of its first order on. A made stream has its first
-- placeholder at packet 100, where a group begins. A field sync and 100 data segments stand before the segment of that
-- packet.
abbrev pub trial_symbols : ℕ → ℕ → List ℕ
trial_symbols seed count = segment_bytes (drop 101 (a53 (trial_feed seed count)))

-- The moment of order i at this offset. Order i stands in field i, whose packet 100 is its placeholder. Two fields make
-- a frame.
abbrev pub order_moment : ℤ → ℕ → Moment
order_moment offset i = moment_of (stamp_of 0 (i / 2)) 5000000 offset (100 + 312 * (i % 2))

-- The line of order i in the log. It has the segment's number in the symbol file, where a field takes 313 segments, the
-- frame, the packet's place in the frame, and the moment.
abbrev pub order_line : ℤ → ℕ → Line
order_line offset i =
    preset (313 * i) (i / 2) (100 + 312 * (i % 2)) (order_moment offset i).tick (order_moment offset i).grain

-- the log of all orders whose groups are whole, at this offset
abbrev pub trial_log : ℕ → ℤ → List ℕ
trial_log count offset = log_text (map (order_line offset) (range_with_len 0 ((count + 208) / 312)))

-- How many packets from packet 312 on come back, where the whole groups hold `sent` packets in all. Packet 312 is the
-- first after a field sync. The 207 bytes of packet k have all been sent once 53 data segments were sent from its own
-- on, or 52 where 52 divides k.
abbrev pub whole_from_312 : ℕ → ℕ
whole_from_312 sent = sent - 364 + (if sent % 52 == 0 then 1 else 0)

-- those packets of the feed, one after another, with 0x47 as their sync bytes
abbrev pub trial_received : ℕ → ℕ → List ℕ
trial_received seed count =
    flat_map (λ k. as_received (slice_index_or (trial_feed seed count) k [])) (range_with_len 312
    (whole_from_312 (4 * (count / 4))))

-- The files of a trial that is done. The three symbol files hold the same bytes. The three logs differ only by the
-- offset.
pub record AreTrialFiles (seed count : ℕ) (now : Files) : Type 0 where
  pub stream : get now (codes "trial.ts") ≡ Some (made_stream seed count)
  pub feed : get now (codes "net.feed") ≡ Some (flat_map (λ packet. packet) (trial_feed seed count))
  pub symbols_1 : get now (codes "tx-1.sym") ≡ Some (trial_symbols seed count)
  pub symbols_2 : get now (codes "tx-2.sym") ≡ Some (trial_symbols seed count)
  pub symbols_3 : get now (codes "tx-3.sym") ≡ Some (trial_symbols seed count)
  pub log_1 : get now (codes "tx-1.log") ≡ Some (trial_log count (pos 0))
  pub log_2 : get now (codes "tx-2.log") ≡ Some (trial_log count (pos 25))
  pub log_3 : get now (codes "tx-3.log") ≡ Some (trial_log count (negsuc 9))
  pub received : get now (codes "net.ts") ≡ Some (trial_received seed count)
