-- How far a schedule is played, and what each part of playing it leaves.
use Rattle.std.specs.Prelude.{◌≡◌, ℕ, ◌<◌, ◌≤◌, ◌++◌, Option, Some, Result, Ok, Err, List, length, map, take, ◌⊎◌, ◌+◌}
use Rattle.std.specs.Prelude.{◌*◌}
use Rattle.dtx_outside.specs.Shelf.{Files}
use Rattle.dtx_outside.specs.declared.shelf.WriteNo.{WriteNo}
use Rattle.dtx_meaning.specs.Meaning.{with_outputs, Outputs}
use Rattle.dtx_meaning.specs.Status.{IsFault}
use Rattle.dtx_meaning.specs.declared.status.Status.{Status}
use Rattle.dtx_meaning.specs.declared.status.Status.TheVariants.{Absent, TooLong, OutOfFeed, ReadFault, WriteFault}
use Rattle.dtx_meaning.specs.declared.status.Status.TheVariants.{Memory}
use Rattle.dtx_packets.specs.declared.packet.Packet as packet
use Rattle.dtx_packets.specs.declared.refusal.NextNo.{NextNo}
use Rattle.dtx_packets.specs.declared.refusal.NextNo.TheVariants as next
use Rattle.dtx_packets.specs.Packets.{packet_at, packets_from}
use Rattle.dtx_plan.specs.declared.transmitter.Transmitter.{Transmitter}
use Rattle.dtx_net.specs.Steps.{Step, packet_step}
use Rattle.dtx_schedule.specs.declared.playout.Playout.{Playout}
use Rattle.dtx_schedule.specs.TransmitterFiles.{AreFronts, Contents, files_of, played, played_outputs, nothing}
use Rattle.dtx_schedule.specs.Playout.{IsPlayout}
use Rattle.dtx_schedule.specs.declared.playing.PlayedSchedule.{PlayedSchedule}

-- the steps that give these packets to the transmitter at a place, in order
abbrev pub packet_steps : ℕ → List (List ℕ) → List Step
packet_steps who packets = map (packet_step who) packets

-- these steps were done with the playout, and the files hold what they write
pub record IsPlayedSoFar (ts : List Transmitter) (steps : List Step) (held : Files) (playout : Playout)
    (now : Option Files) : Type 0 where
  pub playing : IsPlayout ts playout steps
  pub files : now ≡ with_outputs (played_outputs ts steps) (Some held)

-- The first of these steps are done, and at most one more is under way. Each file of a transmitter has all that the
-- steps done give, and at most what the next one adds.
pub record IsUnderWay (ts : List Transmitter) (steps : List Step) (held : Files) (now : Option Files) : Type 0 where
  pub done : List Step
  pub next : List Step
  pub rest : List Step
  pub whole : done ++ (next ++ rest) ≡ steps
  pub one : length next ≤ 1
  pub contents : Contents
  pub least : AreFronts ts (played done) contents
  pub most : AreFronts ts contents (played (done ++ next))
  pub files : now ≡ with_outputs (files_of contents ts) (Some held)

-- What a function leaves that has to do steps up to these. All are done. Or it met an I/O error or lack of memory, and
-- at most one of them is under way.
abbrev pub IsDoneOf : List Transmitter → List Step → Files → Result (Unit {0}) Status → Playout → Option Files → Type 0
IsDoneOf ts steps held (Ok _) playout now = IsPlayedSoFar ts steps held playout now
IsDoneOf ts steps held (Err status) playout now = IsFault status × IsUnderWay ts steps held now

-- what writing leaves that has to bring the files up to these steps; on an error, at most one step is under way
abbrev pub IsWrittenOf : List Transmitter → List Step → Files → Result (Unit {0}) WriteNo → Option Files → Type 0
IsWrittenOf ts steps held (Ok _) now = now ≡ with_outputs (played_outputs ts steps) (Some held)
IsWrittenOf ts steps held (Err _) now = IsUnderWay ts steps held now

-- the status after a refusal to read the feed, which is input 2
abbrev pub of_next : NextNo → Status
of_next next.Absent = Absent 2
of_next next.Failed = ReadFault
of_next next.Memory = Memory
of_next next.TooLong = TooLong

-- The errors of playing a schedule, whatever the files are. The feed, which is input 2, is absent, is too long or ends
-- too early. Or there was an I/O error or no memory.
abbrev pub IsOfFeed : Status → Type 0
IsOfFeed (Absent input) = input ≡ 2
IsOfFeed TooLong = Unit {0}
IsOfFeed (OutOfFeed event) = Unit {0}
IsOfFeed ReadFault = Unit {0}
IsOfFeed WriteFault = Unit {0}
IsOfFeed Memory = Unit {0}
IsOfFeed _ = ⊥

-- what reading packet `from` of a feed answers, where the feed has it
abbrev pub IsPacketOf : List ℕ → ℕ → Result packet.Packet Status → Type 0
IsPacketOf feed from (Ok packet) = packet.0 ≡ packet_at feed from
IsPacketOf feed from (Err status) = IsFault status

-- what reading packets of a feed, from packet `from` on, answers and puts at the front of `into`, where the feed has
-- that packet
abbrev pub IsPieceOf : List ℕ → ℕ → Result ℕ Status → List packet.Packet → Type 0
IsPieceOf feed from (Ok n) into = map (λ p. p.0) (take n into) ≡ packets_from feed from n
IsPieceOf feed from (Err status) into = IsFault status

-- n packets of a part of `count` were read into the front of `into`
pub record IsPieceCount (count : ℕ) (into : List packet.Packet) (n : ℕ) : Type 0 where
  pub some : 0 < n
  pub fits : n ≤ length into
  pub within : n ≤ count

-- What giving the first packets of a part leaves; the part is `count` packets of the feed, from packet `from` on. The
-- first n are given. Or it met an I/O error or lack of memory while it gave one of the part's packets.
abbrev pub IsGivenOf : List Transmitter → List Step → ℕ → List ℕ → ℕ → ℕ → Files → Result ℕ Status → Playout
    → Option Files → Type 0
IsGivenOf ts before who feed from count held (Ok n) playout now =
    IsPlayedSoFar ts (before ++ packet_steps who (packets_from feed from n)) held playout now
IsGivenOf ts before who feed from count held (Err status) playout now =
    IsFault status × IsUnderWay ts (before ++ packet_steps who (packets_from feed from count)) held now

-- How far a schedule of these steps came, and what stands in the files of the transmitters.
pub record Progress (ts : List Transmitter) (steps : List Step) : Type 0 where
  -- The number of files begun. The order is fixed: the symbol file and then the log of each transmitter, in the plan's
  -- order.
  pub begun : ℕ
  pub fits : begun ≤ 2 * length ts
  -- The number of steps done: one number for all transmitters.
  pub done : ℕ
  pub within : done ≤ length steps
  -- What the two files of each transmitter hold, as far as they were begun. Each begins with all that the steps done
  -- give. It is a prefix of what these and the next step give. Where no step is left, it is what all steps give.
  pub contents : Contents
  pub least : AreFronts ts (played (take done steps)) contents
  pub most : AreFronts ts contents (played (take (done + 1) steps))
  -- All files were begun. Or else no step is done, and the files that were begun are empty.
  pub ready : (begun ≡ 2 * length ts) ⊎ ((done ≡ 0) × AreFronts ts contents nothing)

-- the files that were begun, with what they hold
abbrev pub begun_files : (ts : List Transmitter) (steps : List Step) → Progress ts steps → Outputs
begun_files ts steps progress = take progress.begun (files_of progress.contents ts)

-- all files were begun, and all steps are done
pub record IsComplete (ts : List Transmitter) (steps : List Step) (progress : Progress ts steps) : Type 0 where
  pub begun : progress.begun ≡ 2 * length ts
  pub done : progress.done ≡ length steps

-- How far playing a schedule came, whatever it answers. It came to the end, or on an error less far. Only the files
-- that were begun have changed.
abbrev pub IsProgressOf : List Transmitter → List Step → Files → Result PlayedSchedule Status → Option Files → Type 0
IsProgressOf ts steps held (Ok played) now =
    (progress : Progress ts steps) × IsComplete ts steps progress
    × (now ≡ with_outputs (begun_files ts steps progress) (Some held))
IsProgressOf ts steps held (Err status) now =
    (progress : Progress ts steps) × (now ≡ with_outputs (begun_files ts steps progress) (Some held))
