-- Which events of a schedule read past the end of the feed (the profile's own).
use Rattle.std.specs.Prelude.{ℕ, ◌+◌, Bool, false, nat_lt, nat_le, Option, List, position}
use Rattle.dtx_plan.specs.declared.event.Event.{Event}
use Rattle.dtx_plan.specs.declared.event.Event.TheVariants.{Send, Foreign, Flip, Lie, Restart}

-- the event reads past the end of a feed of `packets` packets
abbrev pub reads_past : ℕ → Event → Bool
reads_past packets (Send to from count) = nat_lt packets (from + count)
reads_past packets (Foreign to seed from count) = false
reads_past packets (Flip to from at with) = nat_le packets from
reads_past packets (Lie to from states) = nat_le packets from
reads_past packets (Restart to) = false

-- the number of the first event that reads past the end
unfoldable pub first_past_feed : List Event → ℕ → Option ℕ
first_past_feed events packets = position (reads_past packets) events
