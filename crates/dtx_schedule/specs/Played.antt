-- What playing a schedule answers, and which files it leaves.
use Rattle.std.specs.Prelude.{◌≡◌, ◌⊎◌, ◌≤◌, All, Option, Some, Result, Ok, Err, List, length}
use Rattle.dtx_outside.specs.Shelf.{Files}
use Rattle.dtx_outside.specs.declared.shelf.WriteNo.{WriteNo}
use Rattle.dtx_meaning.specs.Meaning.{ArePartWritten, with_outputs}
use Rattle.dtx_meaning.specs.Status.{IsFault}
use Rattle.dtx_meaning.specs.declared.status.Status.{Status}
use Rattle.dtx_plan.specs.Sound.{IsEvent, IsInRange}
use Rattle.dtx_plan.specs.declared.event.Event.{Event}
use Rattle.dtx_plan.specs.declared.transmitter.Transmitter.{Transmitter}
use Rattle.dtx_net.specs.Steps.{Step}
use Rattle.dtx_schedule.specs.TransmitterFiles.{files_of, nothing, played_outputs}
use Rattle.dtx_schedule.specs.PlayedSoFar.{IsPlayedSoFar, IsUnderWay}
use Rattle.dtx_schedule.specs.Playout.{IsPlayout}
use Rattle.dtx_schedule.specs.declared.playing.PlayedSchedule.{PlayedSchedule}
use Rattle.dtx_schedule.specs.declared.playout.Playout.{Playout}

-- each event is one of a transmitter of the plan, and there are at most as many as a plan has
pub record AreEvents (ts : List Transmitter) (events : List Event) : Type 0 where
  pub each : All (IsEvent ts) events
  pub most : length events ≤ 10000

-- each event has numbers in their ranges, and there are at most as many as a plan has
pub record AreInRange (events : List Event) : Type 0 where
  pub each : All IsInRange events
  pub most : length events ≤ 10000

-- what beginning the files leaves: all are there and empty; on an error, some of the first are
abbrev pub IsBegunOf : List Transmitter → Option Files → Result (Unit {0}) WriteNo → Option Files → Type 0
IsBegunOf ts start (Ok _) now = now ≡ with_outputs (files_of nothing ts) start
IsBegunOf ts start (Err _) now = ArePartWritten (files_of nothing ts) start now

-- A schedule was broken off while the files were begun, or in the midst of a step. So there is one number of steps that
-- are done for all files. Each file holds what these steps give, and a prefix of what the next one gives.
abbrev pub IsBrokenOff : List Transmitter → List Step → Files → Option Files → Type 0
IsBrokenOff ts steps held now = ArePartWritten (files_of nothing ts) (Some held) now ⊎ IsUnderWay ts steps held now

-- an I/O error or lack of memory broke the schedule off, and a prefix of what the steps write stands
pub record IsPlayFault (ts : List Transmitter) (steps : List Step) (held : Files) (status : Status)
    (now : Option Files) : Type 0 where
  pub fault : IsFault status
  pub part : ArePartWritten (played_outputs ts steps) (Some held) now
  pub off : IsBrokenOff ts steps held now

-- all steps were done, and the files hold what they write
pub record ArePlayed (ts : List Transmitter) (steps : List Step) (held : Files) (played : PlayedSchedule)
    (now : Option Files) : Type 0 where
  pub files : now ≡ with_outputs (played_outputs ts steps) (Some held)
  pub playing : IsPlayout ts played.playout steps

-- What beginning the files and playing a schedule of these steps into them leaves.
abbrev pub IsRunOf : List Transmitter → List Step → Files → Result (Unit {0}) Status → Playout → Option Files → Type 0
IsRunOf ts steps held (Ok _) playout now = IsPlayedSoFar ts steps held playout now
IsRunOf ts steps held (Err status) playout now = IsPlayFault ts steps held status now

-- What playing a schedule of these steps answers, and which files it leaves where `held` were there before.
abbrev pub IsPlayOf : List Transmitter → List Step → Files → Result PlayedSchedule Status → Option Files → Type 0
IsPlayOf ts steps held (Ok played) now = ArePlayed ts steps held played now
IsPlayOf ts steps held (Err status) now = IsPlayFault ts steps held status now
