-- The segments in front of a feed's stretch and behind any packets, and the lines of a stretch (the profile's own).
use Rattle.std.specs.Prelude.{ℕ, ℤ, pos, ◌≡◌, ◌+◌, ◌-◌, ◌*◌, ◌%◌, ◌==◌, ◌*ℤ◌, ⊤, nat_le, if◌then◌else◌, List, []}
use Rattle.std.specs.Prelude.{◌∷◌, ◌++◌, length, map, take, slice_index_or, slice_range}
use Rattle.std.specs.List.{range_with_len, flat_map, filter_map}
use Rattle.dtx_clock.specs.declared.answers.Moment.{Moment}
use Rattle.dtx_clock.specs.Clock.{moment_of, DifferBy}
use Rattle.dtx_frame.specs.Segments.{field_sync}
use Rattle.dtx_coder.specs.Stream.{last_of}
use Rattle.dtx_exciter.specs.Order.{Order, counting_order, placed}
use Rattle.dtx_exciter.specs.Packets.{readings, last_answer}
use Rattle.dtx_exciter.specs.Emission.{last_segments, emission}
use Rattle.dtx_exciter.specs.Log.{Line, preset, line_of}
use Rattle.dtx_exciter.specs.Lockstep.{segment_place}

-- ---- behind some packets

-- the segments that further packets give, one after another
unfoldable pub emission_behind : ℕ → ℕ → List (List ℕ) → List (List ℕ) → List (List ℤ)
emission_behind address delay packets more =
    flat_map (λ i. last_segments address delay (packets ++ take (i + 1) more)) (range_with_len 0 (length more))

-- their lines, where n segments were given before the life
unfoldable pub lines_behind : ℕ → ℕ → ℕ → List (List ℕ) → List (List ℕ) → List Line
lines_behind address delay n packets more =
    flat_map
    (λ i. line_of (n + length (emission address delay (packets ++ take i more)))
    (length (last_segments address delay (packets ++ take (i + 1) more)))
    (last_answer address delay (packets ++ take (i + 1) more)))
    (range_with_len 0 (length more))

-- ---- in front of the stretch

-- The field sync in front of the group from packet k on, where the group before it gave these segments. There is none
-- where that group wasn't sent or k begins no field. Otherwise there is one, which ends with the last twelve symbols
-- that were sent.
abbrev pub sync_behind : List (List ℤ) → ℕ → List (List ℤ)
sync_behind [] k = []
sync_behind (s ∷ ss) k =
    if k % 312 == 0 then field_sync (nat_le 312 (k % 624))
    (last_of (slice_index_or (s ∷ ss) (length ss) [])) ∷ [] else []

-- All segments before the data segment of packet k, when a feed is given from its mark on behind earlier packets. They
-- are those given before the last packet of k's group, and then the field sync in front of that group.
unfoldable pub before_stretch : ℕ → ℕ → List (List ℕ) → List (List ℕ) → ℕ → ℕ → List (List ℤ)
before_stretch address delay earlier feed mark k =
    emission address delay (earlier ++ slice_range feed mark (k + 3))
    ++ sync_behind (last_segments address delay (earlier ++ slice_range feed mark k)) k

-- ---- the lines of the stretch

-- the orders of a feed's groups that begin at packet k or later and end at packet end or earlier
unfoldable pub orders_in : List (List ℕ) → ℕ → ℕ → List Order
orders_in feed k end = filter_map (λ g. placed g (counting_order (readings feed) g)) (range_with_len k (end - 3 - k))

-- the moment that an order sets for its group's first data segment, where this offset is in force
abbrev pub order_moment : ℤ → Order → Moment
order_moment offset order = moment_of order.ops.stamp order.ops.max_delay offset (order.place % 624)

-- the line of an order in a stretch that begins with packet k, whose data segment is segment s of what is given
abbrev pub preset_line : ℤ → ℕ → ℕ → Order → Line
preset_line offset s k order =
    preset (s + (segment_place order.place - segment_place k)) order.ops.frame (order.place % 624)
    (order_moment offset order).tick (order_moment offset order).grain

-- the lines of a stretch: one for each order in it, and no other
unfoldable pub stretch_lines : ℤ → ℕ → List (List ℕ) → ℕ → ℕ → List Line
stretch_lines offset s feed k end = map (preset_line offset s k) (orders_in feed k end)

-- Two lines are presets of one packet of one frame, and their moments differ by `ticks` ticks of 1,539 grains and some
-- whole seconds.
abbrev pub IsApart : ℤ → Line → Line → Type 0
IsApart ticks (preset s f p t g) (preset r e q u h) =
    (f ≡ e) × (p ≡ q) × DifferBy (t * 1539 + g) (u * 1539 + h) (ticks *ℤ pos 1539)
IsApart ticks one other = ⊥

-- The lines of two transmitters make a pair for each of these orders, and the lines of each pair differ by `ticks`
-- ticks.
abbrev pub AreApart : ℤ → List Order → List Line → List Line → Type 0
AreApart ticks [] [] [] = ⊤
AreApart ticks (order ∷ orders) (x ∷ xs) (y ∷ ys) = IsApart ticks x y × AreApart ticks orders xs ys
AreApart ticks orders xs ys = ⊥
