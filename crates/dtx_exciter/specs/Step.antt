-- What an exciter does with one whole group, from what it keeps.
use Rattle.std.specs.Prelude.{ℕ, ℤ, ◌≡◌, ◌+◌, ◌%◌, ◌==◌, nat_le, Bool, ◌&&◌, Option, Some, None, option_map}
use Rattle.std.specs.Prelude.{if◌then◌else◌, Result, Ok, Err, List, [], map, take, slice_index_or}
use Rattle.std.specs.List.{list_all}
use Rattle.std.specs.Option.{unwrap_or}
use Rattle.dtx_packets.specs.declared.packet.Packet.{Packet}
use Rattle.dtx_ops.specs.declared.fields.Ops.{Ops}
use Rattle.dtx_coder.specs.Groups.{Group, air_segments, after_group}
use Rattle.dtx_exciter.specs.declared.exciter.Exciter.{Exciter}
use Rattle.dtx_exciter.specs.declared.answers.Why.{Why}
use Rattle.dtx_exciter.specs.declared.answers.Told.{Told}
use Rattle.dtx_exciter.specs.declared.answers.Told.TheVariants.{Quiet, Sent}
use Rattle.dtx_exciter.specs.Order.{either, ordered}
use Rattle.dtx_exciter.specs.declared.pages.Pages.{Pages}
use Rattle.dtx_exciter.specs.Pages.{offset_of, HoldsMore}
use Rattle.dtx_exciter.specs.Told.{hold_by, preset_of, told_why, is_sent}
use Rattle.dtx_exciter.specs.Packets.{reads}
use Rattle.dtx_exciter.specs.Emission.{Holds}

abbrev pub bytes_of : List Packet → List (List ℕ)
bytes_of packets = map (λ p. p.0) packets

-- the order in a group that begins at place j of its frame
unfoldable pub order_in : ℕ → List (List ℕ) → Option Ops
order_in j packets =
    either (ordered j (reads (slice_index_or packets 0 [])))
    (either (ordered (j + 1) (reads (slice_index_or packets 1 [])))
    (either (ordered (j + 2) (reads (slice_index_or packets 2 [])))
    (ordered (j + 3) (reads (slice_index_or packets 3 [])))))

-- the same, if it counts
abbrev pub own_order : Bool → ℕ → List (List ℕ) → Option Ops
own_order flushed j packets = if flushed then order_in j packets else None

-- the hold in ticks under an order, from what is kept of the pages, or why nothing is sent
abbrev pub served_by : ℕ → ℕ → Pages → Result ℕ (Option Why)
served_by delay most pages =
    hold_by delay most (option_map (λ h. h.entry) pages.held) (list_all (λ told. told) (take pages.count pages.told))

-- the answer under the group's own order
abbrev pub told_own : ℕ → Ops → ℤ → Result ℕ (Option Why) → Told
told_own j ops offset (Ok hold) = Sent (Some (preset_of ops offset j hold))
told_own j ops offset (Err why) = told_why why

-- The answer at a group, from what is kept of the pages. A group without an order of its own is sent if the group
-- before it was sent.
abbrev pub told_group : ℕ → ℕ → Option Ops → Pages → Bool → Told
told_group delay j (Some ops) pages sent =
    told_own j ops (offset_of (option_map (λ h. h.entry) pages.held)) (served_by delay ops.max_delay pages)
told_group delay j None pages sent = if sent then Sent None else Quiet

-- the group as it is given to the coder
abbrev pub group_given : ℕ → List (List ℕ) → Option Ops → List ℕ → Bool → Bool → Group
group_given j packets own states before sent = record {
  first = j % 312;
  second = nat_le 312 j;
  sync = sent && before && (j % 312 == 0);
  from = unwrap_or (option_map (λ o. o.states) own) states;
  packets = packets;
}

-- The group's own order, and the group as it is given to the coder. The exciter holds the whole group, which begins at
-- place j.
unfoldable pub own_of : Exciter → ℕ → Option Ops
own_of e j = own_order e.flushed j (bytes_of e.packets)

unfoldable pub group_of : Exciter → ℕ → Told → Group
group_of e j answered = group_given j (bytes_of e.packets) (own_of e j) e.coder.states e.sent (is_sent answered)

-- the exciter after that group, its answer, and the segments that it gives
pub record IsSent (j : ℕ) (old made : Exciter) (answered : Told) (count : ℕ) (symbols : List ℤ) : Type 0 where
  pub pages : HoldsMore old.address (own_of old j) old.pages made.pages
  pub answer : answered ≡ told_group old.delay j (own_of old j) made.pages old.sent
  pub new : made ≡ record old {
    sent = is_sent answered;
    pages = made.pages;
    coder = after_group old.coder (group_of old j answered);
  }
  pub air : Holds (if is_sent answered then air_segments old.coder (group_of old j answered) else []) count symbols

-- the transmitter and the anchor stay
pub record IsSame (old made : Exciter) : Type 0 where
  pub address : made.address ≡ old.address
  pub delay : made.delay ≡ old.delay
  pub anchor : made.anchor ≡ old.anchor
