-- Whether the clock runs from one operations packet to the next (the profile's own).
use Rattle.std.specs.Prelude.{ℕ, ◌+◌, ◌-◌, ◌%◌, ◌^◌, ◌==◌, ◌&&◌, Option, Some, None, if◌then◌else◌}
use Rattle.dtx_clock.specs.Clock.{runs}
use Rattle.dtx_ops.specs.declared.fields.Ops.{Ops}
use Rattle.dtx_watch.specs.declared.notes.ClockNote.{ClockNote}
use Rattle.dtx_watch.specs.declared.notes.ClockNote.TheVariants.{First, Right, Jump}
use Rattle.dtx_watch.specs.declared.stamped.Stamped.{Stamped}

-- the fields of an operations packet with which the next one is compared
abbrev pub stamp_in : Ops → Stamped
stamp_in ops = record { stamp = ops.stamp; max_delay = ops.max_delay; frame = ops.frame }

-- how many frames lie from one frame number to another, modulo 2^32
abbrev pub frames_between : ℕ → ℕ → ℕ
frames_between from to = (to + 2 ^ 32 - from) % 2 ^ 32

-- The clock of an operations packet, compared with the latest one before it, if there is one. It is right if its stamp
-- is later by the length of the frames between the two, rounded down or up, and the maximum delay is the same.
abbrev pub clock_note : Option Stamped → Ops → ClockNote
clock_note None ops = First
clock_note (Some before) ops =
    if runs before.stamp ops.stamp (frames_between before.frame ops.frame) && (ops.max_delay == before.max_delay)
    then Right else Jump
