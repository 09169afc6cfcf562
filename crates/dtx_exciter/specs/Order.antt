-- The orders in the packets from an anchor on (the profile's own). Packets are counted from the anchor. Each packet
-- stands here as the operations fields that it reads as, or as none.
use Rattle.std.specs.Prelude.{ℕ, ◌+◌, ◌%◌, ◌==◌, nat_le, ◌&&◌, Option, Some, None, if◌then◌else◌, List, []}
use Rattle.std.specs.Prelude.{slice_index_or}
use Rattle.std.specs.List.{cons_option}
use Rattle.std.proofs.Common.{zero, suc}
use Rattle.dtx_ops.specs.declared.fields.Ops.{Ops}

-- the first, or else the second
abbrev pub either : {A : Type 0} → Option A → Option A → Option A
either (Some x) y = Some x
either None y = y

-- the values at the numbers below n, that of the greatest number first
abbrev pub latest_first : {A : Type 0} → (ℕ → Option A) → ℕ → List A
latest_first f zero = []
latest_first f (suc n) = cons_option (f n) (latest_first f n)

-- the order in a packet at a place of its frame: its fields, if it reads and its index is its place
abbrev pub ordered : ℕ → Option Ops → Option Ops
ordered place None = None
ordered place (Some ops) = if ops.index == place then Some ops else None

-- the order in packet k
abbrev pub ordered_at : List (Option Ops) → ℕ → Option Ops
ordered_at said k = ordered (k % 624) (slice_index_or said k None)

-- the order in the group of four packets from g on: that of the first of them that has one
unfoldable pub order_at : List (Option Ops) → ℕ → Option Ops
order_at said g =
    either (ordered_at said g) (either (ordered_at said (g + 1))
    (either (ordered_at said (g + 2)) (ordered_at said (g + 3))))

-- the same, if it counts: the group has to begin 52 or more packets behind the anchor
unfoldable pub counting_order : List (Option Ops) → ℕ → Option Ops
counting_order said g = if nat_le 52 g && (g % 4 == 0) then order_at said g else None

-- an order, and where its group begins
pub record Order : Type 0 where
  pub place : ℕ
  pub ops : Ops

abbrev pub placed : ℕ → Option Ops → Option Order
placed g None = None
placed g (Some ops) = Some (record { place = g; ops = ops })

-- The orders of the groups up to the one that begins at i, the latest first. The latest is in force for that group.
unfoldable pub orders : List (Option Ops) → ℕ → List Order
orders said i = latest_first (λ g. placed g (counting_order said g)) (i + 1)
