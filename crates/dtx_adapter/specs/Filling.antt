-- A filler of placeholders, as contracts see it.
use Rattle.std.specs.Prelude.{ℕ, ◌≡◌, ◌≢◌, ◌+◌, ◌<◌, ◌/◌, ◌%◌, Bool, false, if◌then◌else◌, List, AllPairs, length, map}
use Rattle.dtx_clock.specs.Clock.{stamp_of}
use Rattle.dtx_ops.specs.declared.fields.Entry.{Entry}
use Rattle.dtx_ops.specs.declared.fields.Ops.{Ops}
use Rattle.dtx_ops.specs.declared.paging.Paging.{Paging}
use Rattle.dtx_ops.specs.declared.paging.Paging.TheVariants.{One, Of}
use Rattle.dtx_ops.specs.Paging.{IsPaged}
use Rattle.dtx_plan.specs.declared.plan.Plan.{Plan}
use Rattle.dtx_adapter.specs.Feed.{entry_of, placeholders, listed, is_filled, paging_at}

-- The tick at which the feed starts, the states before the group, the maximum delay and all transmitters. Then the page
-- of the group at hand, the next packet's counter, and whether that group filled a placeholder.
pub record Filling : Type 0 where
  pub start : ℕ
  pub states : List ℕ
  pub max_delay : ℕ
  pub entries : List Entry
  pub paging : Paging
  pub counter : ℕ
  pub filled : Bool

-- the fields of packet k of the feed, if it is an operations packet
unfoldable pub filled_ops : Filling → ℕ → Ops
filled_ops filling k = record {
  states = filling.states;
  stamp = stamp_of filling.start (k / 624);
  max_delay = filling.max_delay;
  frame = k / 624;
  index = k % 624;
  paging = filling.paging;
  offsets = record { items = listed filling.entries filling.paging };
}

-- the next page: the first one follows the last
abbrev pub next_page : Paging → Paging
next_page One = One
next_page (Of page pages) = Of ((page + 1) % pages) pages

-- The filler after a group begins, before which the coders have these states. If the group before it filled a
-- placeholder, this one has the next page.
unfoldable pub begun : Filling → List ℕ → Filling
begun filling states = record filling {
  states = states;
  paging = if filling.filled then next_page filling.paging else filling.paging;
  filled = false;
}

-- An operations packet with these fields reads. Start and maximum delay are below one second of 10,000,000 ticks, and
-- the counter is of four bits. The addresses differ, the page may list this number of transmitters, and `offsets` are
-- the page's transmitters.
pub record IsReadable (ticks delay count : ℕ) (transmitters : List Entry) (turn : Paging) (offsets : List Entry)
    : Type 0 where
  pub start : ticks < 10000000
  pub max_delay : delay < 10000000
  pub counter : count < 16
  pub differ : AllPairs (λ a b. a ≢ b) (map (λ e. e.address) transmitters)
  pub paged : IsPaged turn (length offsets)
  pub at_hand : offsets ≡ listed transmitters turn

-- the filler of a plan's feed that was given these packets of the stream and has group u at hand
pub record Fills (plan : Plan) (filling : Filling) (stream : List (List ℕ)) (u : ℕ) : Type 0 where
  pub start : filling.start ≡ plan.start
  pub max_delay : filling.max_delay ≡ plan.max_delay
  pub entries : filling.entries ≡ map entry_of plan.transmitters
  pub paging : filling.paging ≡ paging_at plan stream u
  pub counter : filling.counter ≡ placeholders stream % 16
  pub filled : filling.filled ≡ is_filled stream u
