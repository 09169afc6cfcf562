-- The first order that counts for an exciter that is given the feed of a stream from the start (the profile's own).
use Rattle.std.specs.Prelude.{ℕ, ◌≡◌, ◌+◌, ◌%◌, ◌<◌, ◌≤◌, true, false, List, length}
use Rattle.dtx_network.specs.Orders.{has_order}

-- Packet k begins a whole group of four packets, at packet 52 or later, that holds a placeholder. It is the first such
-- group. In the feed an operations packet stands in place of the placeholder.
pub record IsFirstOrder (packets : List (List ℕ)) (k : ℕ) : Type 0 where
  pub group : k % 4 ≡ 0
  pub behind : 52 ≤ k
  pub whole : k + 4 ≤ length packets
  pub order : has_order packets k ≡ true
  pub least : (i : ℕ) → i % 4 ≡ 0 → 52 ≤ i → i < k → has_order packets i ≡ false
