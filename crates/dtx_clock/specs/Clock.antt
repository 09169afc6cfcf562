-- Stamps, holds and moments (the profile's own). A second has 10,000,000 ticks, and a tick 1,539 grains. The symbol
-- rate is 4.5 MHz * 684 / 286 (ATSC A/53 Part 2), so a symbol lasts 1,430 grains, a segment 1,189,760 and a frame
-- 744,789,760.
use Rattle.std.specs.Prelude.{◌≡◌, ℕ, ◌+◌, ◌-◌, ◌*◌, ◌/◌, ◌%◌, ◌==◌, ◌||◌, nat_lt, Bool, if◌then◌else◌, ℤ, pos, ◌+ℤ◌}
use Rattle.std.specs.Prelude.{◌-ℤ◌, ◌*ℤ◌, ◌<ℤ◌, Result, Ok, Err, unsigned_abs}
use Rattle.std.specs.Int.{int_rem_euclid}
use Rattle.dtx_clock.specs.declared.answers.Late.{Late}
use Rattle.dtx_clock.specs.declared.answers.Moment.{Moment}

-- the stamp of a frame, by one division of the whole sum: rounded lengths of frames would add up to less
abbrev pub stamp_of : ℕ → ℕ → ℕ
stamp_of start frame = (start * 1539 + frame * 744789760) / 1539 % 10000000

-- Whether a running clock gets from one stamp to another in `frames` frames. It does if the ticks between the two,
-- modulo one second, are the length of all frames together, rounded down or up to whole ticks.
abbrev pub runs : ℕ → ℕ → ℕ → Bool
runs from to frames =
    ((to + 10000000 - from % 10000000) % 10000000 == frames * 744789760 / 1539 % 10000000)
    || ((to + 10000000 - from % 10000000) % 10000000 == (frames * 744789760 + 1538) / 1539 % 10000000)

-- the hold: the sum of maximum delay and offset less the delay, or late if the delay is greater than that sum
abbrev pub IsHold : ℕ → ℤ → ℕ → Result ℕ Late → Type 0
IsHold max offset delay (Ok left) = pos left ≡ (pos max +ℤ offset -ℤ pos delay)
IsHold max offset delay (Err late) = (pos max +ℤ offset) <ℤ pos delay

-- how many segments of its frame stand before the data segment of packet j: j, and a field sync before packet 0 and
-- packet 312
abbrev pub segment_of : ℕ → ℕ
segment_of j = if nat_lt j 312 then j + 1 else j + 2

-- the grains from the clock's zero to the data segment of packet j: the frame begins at the sum of stamp, maximum delay
-- and offset
abbrev pub count_of : ℕ → ℕ → ℤ → ℕ → ℤ
count_of stamp max offset j = (pos stamp +ℤ pos max +ℤ offset) *ℤ pos 1539 +ℤ pos (segment_of j * 1189760)

-- the grains of that moment within its second
abbrev pub grains_of : ℕ → ℕ → ℤ → ℕ → ℕ
grains_of stamp max offset j = unsigned_abs (int_rem_euclid (count_of stamp max offset j) (pos 15390000000))

-- that moment, in ticks and grains
abbrev pub moment_of : ℕ → ℕ → ℤ → ℕ → Moment
moment_of stamp max offset j = record {
  tick = grains_of stamp max offset j / 1539;
  grain = grains_of stamp max offset j % 1539;
}

-- x and y differ by d grains and some whole seconds
abbrev pub DifferBy : ℕ → ℕ → ℤ → Type 0
DifferBy x y d = (seconds : ℤ) × ((pos x -ℤ pos y) ≡ (d +ℤ (seconds *ℤ pos 15390000000)))
