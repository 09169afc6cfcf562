-- What an exciter answers to a packet (the profile's own). Its packets stand here as their sync bytes, and as the
-- operations fields that they read as.
use Rattle.std.specs.Prelude.{ℕ, ◌-◌, ◌%◌, ◌==◌, Bool, true, false, Option, Some, None, option_map}
use Rattle.std.specs.Prelude.{if◌then◌else◌, Result, Ok, Err, List, [], ◌∷◌, length, take, drop, ℤ, pos, negsuc}
use Rattle.std.specs.Prelude.{◌+ℤ◌, ◌-ℤ◌}
use Rattle.dtx_cadence.specs.Anchor.{anchor}
use Rattle.dtx_clock.specs.Clock.{moment_of}
use Rattle.dtx_ops.specs.declared.fields.Entry.{Entry}
use Rattle.dtx_ops.specs.declared.fields.Ops.{Ops}
use Rattle.dtx_exciter.specs.declared.answers.Why.{Why}
use Rattle.dtx_exciter.specs.declared.answers.Why.TheVariants.{Cadence, Unlisted, Late}
use Rattle.dtx_exciter.specs.declared.answers.Preset.{Preset}
use Rattle.dtx_exciter.specs.declared.answers.Told.{Told}
use Rattle.dtx_exciter.specs.declared.answers.Told.TheVariants.{Quiet, Sent, Muted}
use Rattle.dtx_exciter.specs.Order.{Order, orders}
use Rattle.dtx_exciter.specs.Pages.{of_one_cycle, all_pages_told, entry_in_force, offset_of}

-- ---- whether a transmitter is served

-- the hold, from the ticks that are left: the transmitter is late if they are negative
abbrev pub left_of : ℤ → Result ℕ (Option Why)
left_of (pos n) = Ok n
left_of (negsuc n) = Err (Some Late)

-- The hold: the maximum delay plus the offset of the entry in force, less the delay. Without an entry in force the
-- transmitter waits for its page, and is unlisted once all pages are told.
abbrev pub hold_by : ℕ → ℕ → Option Entry → Bool → Result ℕ (Option Why)
hold_by delay most None told = Err (if told then Some Unlisted else None)
hold_by delay most (Some e) told = left_of (pos most +ℤ e.offset -ℤ pos delay)

-- The hold in ticks under these orders, the latest of which is in force, or why nothing is sent. `Err None` gives no
-- reason: there is no order, or the transmitter waits for its page.
unfoldable pub served : ℕ → ℕ → List Order → Result ℕ (Option Why)
served address delay [] = Err None
served address delay (order ∷ older) =
    hold_by delay order.ops.max_delay (entry_in_force address (order ∷ older))
    (all_pages_told (of_one_cycle (order ∷ older)))

-- ---- the answer to the group's last packet

-- the preset of an order at place j of its frame, with the offset in force
abbrev pub preset_of : Ops → ℤ → ℕ → ℕ → Preset
preset_of ops offset j hold = record {
  frame = ops.frame;
  packet = j;
  moment = moment_of ops.stamp ops.max_delay offset j;
  hold = hold;
}

-- the answer at an order under which nothing is sent
abbrev pub told_why : Option Why → Told
told_why None = Quiet
told_why (Some why) = Muted why

-- The answer at the group from i on, under the order in force. The order is the group's own if its place is i.
abbrev pub told_by : ℕ → Order → ℤ → Result ℕ (Option Why) → Told
told_by i order offset (Ok hold) =
    Sent (if order.place == i then Some (preset_of order.ops offset (i % 624) hold) else None)
told_by i order offset (Err why) = if order.place == i then told_why why else Quiet

-- the same under these orders, the latest of which is in force
abbrev pub told_at : ℕ → ℕ → ℕ → List Order → Told
told_at address delay i [] = Quiet
told_at address delay i (order ∷ older) =
    told_by i order (offset_of (entry_in_force address (order ∷ older))) (served address delay (order ∷ older))

-- ---- the answer to any packet

-- The answer under an anchor, if there is one. It is `Quiet` unless the last packet completes a group.
abbrev pub told_under : ℕ → ℕ → Option (List (Option Ops)) → Told
told_under address delay None = Quiet
told_under address delay (Some said) =
    if length said % 4 == 0 then told_at address delay (length said - 4) (orders said (length said - 4)) else Quiet

-- whether there was an anchor and there is none now
abbrev pub was_lost : Option ℕ → Option ℕ → Bool
was_lost (Some a) None = true
was_lost before now = false

-- the answer by the anchors before and at the last packet
abbrev pub told_from : ℕ → ℕ → Option ℕ → Option ℕ → List (Option Ops) → Told
told_from address delay before now said =
    if was_lost before now then Muted Cadence else told_under address delay (option_map (λ a. drop a said) now)

-- the answer to the last packet of those with these sync bytes, which read as these fields
unfoldable pub told_of : ℕ → ℕ → List ℕ → List (Option Ops) → Told
told_of address delay syncs said = told_from address delay (anchor (take (length syncs - 1) syncs)) (anchor syncs) said

-- whether a group was sent
abbrev pub is_sent : Told → Bool
is_sent Quiet = false
is_sent (Sent preset) = true
is_sent (Muted why) = false
