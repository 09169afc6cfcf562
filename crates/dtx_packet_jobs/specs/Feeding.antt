-- What the engine of `adapt` keeps.
use Rattle.std.specs.Prelude.{◌≡◌, ℕ, ◌≤◌, List}
use Rattle.dtx_adapter.specs.Adapting.{StandsFor}
use Rattle.dtx_adapter.specs.Feed.{placeholders}
use Rattle.dtx_packets.specs.Packets.{packets_of, whole_packets}
use Rattle.dtx_packet_jobs.specs.declared.feeder.Feeder.{Feeder}

-- the state after the packets of these bytes: they were adapted under the state's plan, and counted
pub record HasFed (state : Feeder) (given : List ℕ) : Type 0 where
  pub adapter : StandsFor state.plan.now state.adapter (packets_of given)
  pub count : state.count ≡ whole_packets given
  pub filled : state.filled ≡ placeholders (packets_of given)

-- the adapter was given as many packets as were counted, and at most as many placeholders were filled
pub record IsCounted (state : Feeder) : Type 0 where
  pub given : state.adapter.given ≡ state.count
  pub filled : state.filled ≤ state.count
