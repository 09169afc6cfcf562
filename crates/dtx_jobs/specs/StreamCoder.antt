-- What the engine of `code` keeps.
use Rattle.std.specs.Prelude.{◌≡◌, ◌+◌, ◌*◌, ◌/◌, ◌%◌, ◌<◌, ◌≤◌, ℕ, List, length, take}
use Rattle.dtx_coder.specs.Groups.{StandsFor}
use Rattle.dtx_packets.specs.Packets.{packets_of, whole_packets}
use Rattle.dtx_recipes.specs.SymbolFile.{in_groups}
use Rattle.dtx_jobs.specs.declared.stream_coder.StreamCoder.{StreamCoder}
use Rattle.dtx_jobs.specs.declared.stream_coder.TheConstants.{CODED_BYTES}

-- the state after the packets of these bytes: the coder stands for their whole groups, and the packets are counted
pub record WasCoded (state : StreamCoder) (bytes : List ℕ) : Type 0 where
  pub coder : StandsFor state.coder.value (take (in_groups (packets_of bytes)) (packets_of bytes))
  pub packets : state.packets ≡ whole_packets bytes

-- packets can be taken, from packet `first` on: the first one begins a group, and there is room for their symbols
pub record IsReadyFor (state : StreamCoder) (first packets : ℕ) : Type 0 where
  pub grouped : 0 < packets → first % 4 ≡ 0
  pub room : length state.symbols + 4160 * (packets / 4) ≤ CODED_BYTES
