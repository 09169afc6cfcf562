-- The packet that a block of a run completes.
use Rattle.std.specs.Prelude.{ℕ, true, false, List, [], ◌∷◌}
use Rattle.dtx_outer.specs.declared.inner.Taken.{Taken}
use Rattle.dtx_outer.specs.declared.inner.Taken.TheVariants.{None, Good, Bad}
use Rattle.dtx_packets.specs.Packets.{with_error}
use Rattle.dtx_receiver.specs.declared.batch.Received.{Received}

-- The packet of the data `head`, behind the sync byte 0x47, or none where the block completes no word. Where the word
-- has no correction, the packet's error indicator is set.
abbrev pub handed : Taken → List ℕ → List Received
handed None head = []
handed (Good fixed) head = record { packet = record { 0 = 0x47 ∷ head }; fixed = fixed; good = true } ∷ []
handed Bad head = record { packet = record { 0 = with_error (0x47 ∷ head) }; fixed = 0; good = false } ∷ []
