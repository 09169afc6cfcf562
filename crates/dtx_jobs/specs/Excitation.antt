-- What the engine of `excite` keeps.
use Rattle.std.specs.Prelude.{◌≡◌, ◌+◌, ◌*◌, ◌≤◌, ℕ, List, length}
use Rattle.dtx_coder.specs.declared.air.TheConstants.{AIR_SYMBOLS}
use Rattle.dtx_exciter.specs.Kept.{StandsFor}
use Rattle.dtx_exciter.specs.Packets.{group_part}
use Rattle.dtx_packets.specs.Packets.{packets_of}
use Rattle.dtx_recipes.specs.Life.{life_tally}
use Rattle.dtx_files.specs.declared.log_text.TheConstants.{LOG_LINE}
use Rattle.dtx_jobs.specs.declared.excitation.Excitation.{Excitation}
use Rattle.dtx_jobs.specs.declared.excitation.TheConstants.{LOGGED_BYTES, SENT_BYTES}

-- the state after these packets: the exciter stands for them, and the numbers are theirs
pub record IsLife (state : Excitation) (packets : List (List ℕ)) : Type 0 where
  pub exciter : StandsFor state.address state.delay state.exciter.value packets
  pub tally : state.sending.tally ≡ life_tally state.address state.delay packets

-- the state after the packets of these bytes
abbrev pub WasExcited : Excitation → List ℕ → Type 0
WasExcited state bytes = IsLife state (packets_of bytes)

-- There is room for what so many packets more bring. That for symbols is counted in packets, each a fourth of a group:
-- for those of a group that has begun, for all of them but the last, and for the group that the last one may bring.
abbrev pub HasRoomFor : Excitation → ℕ → Type 0
HasRoomFor state packets =
    (before : List (List ℕ)) × IsLife state before
    × (4 * length state.sending.symbols + AIR_SYMBOLS * (group_part before + packets + 3) ≤ 4 * SENT_BYTES)
    × (length state.sending.lines + LOG_LINE * packets ≤ LOGGED_BYTES)
