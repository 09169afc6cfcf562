-- What the engine of `place` keeps.
use Rattle.std.specs.Prelude.{◌≡◌, ℕ, zero, suc, ◌+◌, ◌/◌, not, if◌then◌else◌, List, length}
use Rattle.std.specs.List.{list_any}
use Rattle.dtx_packet_jobs.specs.declared.placing.Placing.{Placing}
use Rattle.dtx_recipes.specs.Place.{behind, is_open, placed_count}

-- how many of the first fields have no packet, from place 52 on, in whose place a placeholder may stand
abbrev pub closed_fields : List (List ℕ) → ℕ → ℕ
closed_fields packets zero = 0
closed_fields packets (suc f) = closed_fields packets f + (if not (list_any is_open (behind packets f)) then 1 else 0)

-- the state after these packets: they were counted
pub record IsCounted (state : Placing) (packets : List (List ℕ)) : Type 0 where
  pub changed : state.placed ≡ placed_count packets
  pub without : state.bare ≡ closed_fields packets (length packets / 312)
  pub field : state.found ≡ list_any is_open (behind packets (length packets / 312))
