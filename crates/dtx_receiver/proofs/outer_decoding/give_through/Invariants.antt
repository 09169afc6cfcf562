use Rattle.std.proofs.Common.{◌≡◌, ℕ, ◌*◌, ◌≤◌, ◌++◌, List, length, take}
use Rattle.dtx_outer.specs.Inner.{StandsFor}
use Rattle.dtx_receiver.specs.Packets.{early_of}
use Rattle.dtx_receiver.specs.declared.batch.Received.{Received}
use Rattle.dtx_receiver.proofs.outer_decoding.give_through.Given as goal

abbrev pub invariant-loop-p : goal.invariant-loop-p
invariant-loop-p l = record {
  packets : (before : List ℕ) (given : List Received) → StandsFor 207 187 52 4 l.fn.inner before
      → early_of before ≡ given ++ l.fn.batch.packets.items
      → early_of (before ++ take (207 * l.p) l.fn.bytes) ≡ given ++ l.batch.packets.items;
  few : length l.batch.packets.items ≤ l.p;
}
