-- What the engine of `watch` keeps.
use Rattle.std.specs.Prelude.{ℕ, ◌≡◌, List, length}
use Rattle.dtx_packets.specs.Packets.{packets_of}
use Rattle.dtx_watch.specs.Kept.{StandsFor}
use Rattle.dtx_watch.specs.Watch.{told}
use Rattle.dtx_recipes.specs.Watch.{watch_tally}
use Rattle.dtx_jobs.specs.declared.watching.Watching.{Watching}

-- the state after these packets: the watcher stands for them, and the numbers are those of the notes so far
pub record IsWatched (state : Watching) (packets : List (List ℕ)) : Type 0 where
  pub watcher : StandsFor state.watcher.value packets
  pub tally : state.tally ≡ watch_tally (length packets) (told packets)

-- the state after the packets of these bytes
abbrev pub WasWatched : Watching → List ℕ → Type 0
WasWatched state bytes = IsWatched state (packets_of bytes)
