-- An exciter that is given a feed from one of its marks on, whatever it was given before.
use Rattle.std.specs.Prelude.{ℕ, ◌≡◌, ◌+◌, ◌-◌, ◌/◌, ◌%◌, ◌≤◌, ◌<◌, ◌==◌, if◌then◌else◌, true, Option, Some, None}
use Rattle.std.specs.Prelude.{List, [], ◌++◌, length, take, drop, slice_index_or, slice_range, ℤ, pos, ◌+ℤ◌, ◌≤ℤ◌}
use Rattle.dtx_packets.specs.Packets.{sync_of}
use Rattle.dtx_ops.specs.Paging.{page_of, pages_of}
use Rattle.dtx_ops.specs.declared.fields.Entry.{Entry}
use Rattle.dtx_ops.specs.declared.fields.Ops.{Ops}
use Rattle.dtx_coder.specs.Stream.{states, a53}
use Rattle.dtx_exciter.specs.Order.{counting_order}
use Rattle.dtx_exciter.specs.Pages.{entry_of, lists}
use Rattle.dtx_exciter.specs.Packets.{readings, anchor_of}

-- The feed suits the exciter of the transmitter with this address, delay and offset. A mark stands at each 624th packet
-- and nowhere else. The orders 52 or more packets behind the feed's start set the states that the feed's own coders
-- have before the order's group. All orders have one number of pages. The orders of one page all list the address, or
-- none of them does. Each order that lists it has this offset for it. The delay is at most each order's maximum delay
-- plus the offset.
pub record IsFeed (address delay : ℕ) (offset : ℤ) (feed : List (List ℕ)) : Type 0 where
  pub marks : (k : ℕ) → k < length feed → (sync_of (slice_index_or feed k []) == 0xB8) ≡ (k % 624 == 0)
  pub states : (g : ℕ) (ops : Ops) → counting_order (readings feed) g ≡ Some ops → ops.states ≡ states (take g feed)
  pub pages : (g h : ℕ) (ops other : Ops) → counting_order (readings feed) g ≡ Some ops
      → counting_order (readings feed) h ≡ Some other → pages_of ops.paging ≡ pages_of other.paging
  pub same : (g h : ℕ) (ops other : Ops) → counting_order (readings feed) g ≡ Some ops
      → counting_order (readings feed) h ≡ Some other → page_of ops.paging ≡ page_of other.paging
      → lists address ops ≡ lists address other
  pub entry : (g : ℕ) (ops : Ops) (e : Entry) → counting_order (readings feed) g ≡ Some ops
      → entry_of address ops ≡ Some e → e.offset ≡ offset
  pub serves : (g : ℕ) (ops : Ops) → counting_order (readings feed) g ≡ Some ops
      → pos delay ≤ℤ (pos ops.max_delay +ℤ offset)

-- The packet of a feed from which on an exciter is locked to it. The exciter is given the feed from this mark on,
-- behind n packets with this anchor. It is locked from the mark on if there was no anchor, or if the old lock is in
-- step with the mark. Otherwise the old lock is out of step, and lost by the third mark.
abbrev pub locked_by : Option ℕ → ℕ → ℕ → ℕ
locked_by None n mark = mark
locked_by (Some j) n mark = if (n - j) % 624 == 0 then mark else mark + 1248

-- the same behind the earlier packets of its life
unfoldable pub locked_from : List (List ℕ) → ℕ → ℕ
locked_from earlier mark = locked_by (anchor_of earlier) (length earlier) mark

-- The feed is given from mark on behind earlier packets. Behind packet z of the feed and each further one the anchor is
-- the same, in step with the feed.
pub record HasLock (earlier feed : List (List ℕ)) (mark z : ℕ) : Type 0 where
  pub place : ℕ
  pub within : place ≤ length earlier + (z - mark)
  pub steps : (length earlier + (z - mark) - place) % 624 ≡ 0
  pub holds : (n : ℕ) → z < n → n ≤ length feed → anchor_of (earlier ++ slice_range feed mark n) ≡ Some place

-- The feed's packets from `mark` to `end`, with the whole group from packet k on among them. That group begins 52 or
-- more packets behind packet z, and its order lists the address.
pub record IsStretch (address : ℕ) (feed : List (List ℕ)) (z mark end k : ℕ) : Type 0 where
  pub is_mark : mark % 624 ≡ 0
  pub inside : end ≤ length feed
  pub behind : z + 52 ≤ k
  pub whole : k + 4 ≤ end
  pub order : (ops : Ops) × (counting_order (readings feed) k ≡ Some ops) × (lists address ops ≡ true)

-- the index of packet k's data segment among the segments of its stream: a field sync stands before each 312 of them
abbrev pub segment_place : ℕ → ℕ
segment_place k = k + k / 312 + 1

-- the segments of a feed's packets before packet `end`, from the data segment of packet k on
unfoldable pub stretch : List (List ℕ) → ℕ → ℕ → List (List ℤ)
stretch feed k end = drop (segment_place k) (a53 (take end feed))
