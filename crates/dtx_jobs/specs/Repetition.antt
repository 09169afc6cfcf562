-- What the engine of `repeat` keeps.
use Rattle.std.specs.Prelude.{◌≡◌, ◌+◌, ◌*◌, ◌≤◌, ℕ, ℤ, List, length}
use Rattle.dtx_coder.specs.declared.air.TheConstants.{AIR_SYMBOLS}
use Rattle.dtx_engine.specs.Made.{Made, both, joined}
use Rattle.dtx_exciter.specs.Packets.{group_part}
use Rattle.dtx_files.specs.declared.log_text.TheConstants.{LOG_LINE}
use Rattle.dtx_receiver.specs.Runs.{runs}
use Rattle.dtx_repeat.specs.GoingOn.{last_life}
use Rattle.dtx_repeat.specs.Lives.{lives_so_far}
use Rattle.dtx_repeat.specs.Repeater.{StandsFor}
use Rattle.dtx_repeat.specs.declared.repeater.Repeater.{Repeater}
use Rattle.dtx_recipes.specs.Life.{lives_tally}
use Rattle.dtx_recipes.specs.Repeat.{sent_in}
use Rattle.dtx_recipes.specs.SymbolFile.{file_segments}
use Rattle.dtx_recipes.specs.declared.life_tally.LifeTally.{LifeTally}
use Rattle.dtx_sizes.specs.declared.fields.TheConstants.{GROUP_PACKETS}
use Rattle.dtx_jobs.specs.declared.repetition.Repetition.{Repetition}
use Rattle.dtx_jobs.specs.declared.repetition.TheConstants.{LOGGED_BYTES, SENT_BYTES}
use Rattle.dtx_jobs.specs.declared.sending.Sending.{Sending}

-- The repeater received these segments, and its exciter was given the packets of these lives. The numbers of what was
-- sent are the lives'.
pub record IsSending (a d : ℕ) (repeater : Repeater) (tally : LifeTally) (segments : List (List ℤ))
    (lives : List (List (List ℕ))) : Type 0 where
  pub stands : StandsFor a d repeater segments (last_life lives)
  pub counted : tally ≡ lives_tally a d lives

-- the symbols and lines that were gathered
abbrev pub gathered : Sending SENT_BYTES LOGGED_BYTES → Made
gathered sending = both sending.symbols sending.lines

-- What the lives `after` give more than `before` was gathered behind `old`. It is that of so many packets, of which
-- each fourth one brings a group at most.
pub record IsSentOn (a d : ℕ) (repeater : Repeater) (old new : Sending SENT_BYTES LOGGED_BYTES)
    (segments : List (List ℤ)) (before after : List (List (List ℕ))) (packets : ℕ) : Type 0 where
  pub sending : IsSending a d repeater new.tally segments after
  pub made : (front : Made) → sent_in a d before ≡ joined front (gathered old)
      → sent_in a d after ≡ joined front (gathered new)
  pub spaced : 4 * length new.symbols + AIR_SYMBOLS * group_part (last_life after)
      ≤ 4 * length old.symbols + AIR_SYMBOLS * (group_part (last_life before) + packets)

-- the numbers are within the bounds for as many segments
pub record AreFew (state : Repetition) : Type 0 where
  pub runs : state.runs ≤ state.segments
  pub packets : state.sending.tally.packets ≤ 4 * state.segments

-- the state after these segments: they were received, and what they gave was sent again
pub record IsRepeating (state : Repetition) (received : List (List ℤ)) : Type 0 where
  pub sending : IsSending state.address state.delay state.repeater.value state.sending.tally received
      (lives_so_far received)
  pub count : state.segments ≡ length received
  pub begun : state.runs ≡ length (runs received)

-- the state after the segments of these bytes
pub record WasRepeated (state : Repetition) (bytes : List ℕ) : Type 0 where
  pub repeating : IsRepeating state (file_segments bytes)
  pub few : AreFew state

-- There is room for what so many segments more bring: a group of packets each, and a restart. The room for symbols is
-- counted in packets, each a fourth of a group.
abbrev pub HasRoomFor : Repetition → ℕ → Type 0
HasRoomFor state segments =
    (received : List (List ℤ)) × IsRepeating state received
    × (4 * length state.sending.symbols
    + AIR_SYMBOLS * (group_part (last_life (lives_so_far received)) + GROUP_PACKETS * segments + 6) ≤ 4 * SENT_BYTES)
    × (length state.sending.lines + LOG_LINE * ((GROUP_PACKETS + 1) * segments) ≤ LOGGED_BYTES)
