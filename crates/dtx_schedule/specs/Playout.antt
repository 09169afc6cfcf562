-- What a playout, and the two files of each transmitter, keep while a schedule is played.
use Rattle.std.specs.Prelude.{◌≡◌, ℕ, ◌*◌, ◌<◌, ◌≤◌, ◌^◌, Some, IfSome, List, length, slice_get, is_some, [], ◌∷◌, ◌++◌}
use Rattle.std.specs.Prelude.{Option, Result, Ok, Err}
use Rattle.std.specs.List.{count_by}
use Rattle.dtx_plan.specs.Sound.{AreTransmitters}
use Rattle.dtx_plan.specs.declared.transmitter.Transmitter.{Transmitter}
use Rattle.dtx_net.specs.Steps.{Step, transmitter_place}
use Rattle.dtx_net.specs.Standing.{StandsFor}
use Rattle.dtx_net.specs.Lives.{sent_segments}
use Rattle.dtx_schedule.specs.declared.pair.FileNames.{FileNames}
use Rattle.dtx_schedule.specs.declared.playout.Playout.{Playout}
use Rattle.std.specs.FinMap.{get}
use Rattle.dtx_outside.specs.Shelf.{Files, with_file}
use Rattle.dtx_outside.specs.declared.shelf.WriteNo.{WriteNo}
use Rattle.dtx_meaning.specs.Meaning.{IsFrontOf}
use Rattle.dtx_words.specs.Names.{symbol_name, log_name}
use Rattle.dtx_schedule.specs.TransmitterFiles.{symbol_file, log_file}

-- the names are those of the two files of the transmitter at an address, which has 16 bits
pub record AreNamesOf (address : ℕ) (names : FileNames) : Type 0 where
  pub symbols : names.symbols.bytes ≡ symbol_name address
  pub log : names.log.bytes ≡ log_name address
  pub small : address < 2 ^ 16

-- the two files of the transmitter at an address hold these symbols and this log
pub record HasPair (address : ℕ) (symbols log : List ℕ) (held : Files) : Type 0 where
  pub sent : get held (symbol_name address) ≡ Some symbols
  pub logged : get held (log_name address) ≡ Some log

-- the files, with these symbols and this log as the transmitter's two
abbrev pub with_pair : ℕ → List ℕ → List ℕ → Files → Files
with_pair address symbols log held = with_file (log_name address) log (with_file (symbol_name address) symbols held)

-- what appending bytes to a file leaves: all bytes were appended, or on an error a prefix of them
abbrev pub IsAddedTo : List ℕ → List ℕ → List ℕ → Files → Result (Unit {0}) WriteNo → Option Files → Type 0
IsAddedTo name file bytes held (Ok _) now = now ≡ Some (with_file name (file ++ bytes) held)
IsAddedTo name file bytes held (Err _) now = (part : List ℕ) × IsFrontOf part bytes
    × (now ≡ Some (with_file name (file ++ part) held))

-- what appending symbols and a line to a transmitter's two files leaves; on an error, each file got a prefix of its
-- piece
abbrev pub IsPairOf : ℕ → List ℕ → List ℕ → List ℕ → List ℕ → Files → Result (Unit {0}) WriteNo → Option Files → Type 0
IsPairOf address sent logged symbols line held (Ok _) now =
    now ≡ Some (with_pair address (sent ++ symbols) (logged ++ line) held)
IsPairOf address sent logged symbols line held (Err _) now =
    (part : List ℕ) × (text : List ℕ) × IsFrontOf part symbols × IsFrontOf text line
    × (now ≡ Some (with_pair address (sent ++ part) (logged ++ text) held))

-- one step more adds these symbols to its transmitter's symbol file, and this line to its log
pub record Brings (ts : List Transmitter) (steps : List Step) (step : Step) (symbols line : List ℕ) : Type 0 where
  pub sent : (t : Transmitter) → slice_get ts step.who ≡ Some t
      → symbol_file t step.who (steps ++ step ∷ []) ≡ symbol_file t step.who steps ++ symbols
  pub logged : (t : Transmitter) → slice_get ts step.who ≡ Some t
      → log_file t step.who (steps ++ step ∷ []) ≡ log_file t step.who steps ++ line

-- how many packets are given: the number of steps that aren't restarts
unfoldable pub packets_given : List Step → ℕ
packets_given steps = count_by (λ step. is_some step.packet) steps

-- how many segments each transmitter has sent in these steps, in the plan's order; the steps are those of all
-- transmitters
pub record AreSent (ts : List Transmitter) (steps : List Step) (sent : List ℕ) : Type 0 where
  pub long : length sent ≡ length ts
  pub each : (who : ℕ) (t : Transmitter) → slice_get ts who ≡ Some t
      → slice_get sent who ≡ Some (length (sent_segments t who steps))

-- the transmitter with this address has sent `segments` segments in these steps, which are those of all transmitters
abbrev pub SentBy : ℕ → List Transmitter → List Step → ℕ → Type 0
SentBy address ts steps segments =
    IfSome (transmitter_place address ts) (λ who. (t : Transmitter) → slice_get ts who ≡ Some t
    → segments ≡ length (sent_segments t who steps))

-- the names of the files of each transmitter, in the plan's order
pub record AreNames (ts : List Transmitter) (names : List FileNames) : Type 0 where
  pub long : length names ≡ length ts
  pub each : (who : ℕ) (t : Transmitter) (its : FileNames) → slice_get ts who ≡ Some t → slice_get names who ≡ Some its
      → AreNamesOf t.address its
  pub small : (who : ℕ) (t : Transmitter) → slice_get ts who ≡ Some t → t.address < 2 ^ 16

-- these steps were done with the network: its exciters stand for them, and the packets given and the segments sent are
-- counted
pub record IsPlayout (ts : List Transmitter) (playout : Playout) (steps : List Step) : Type 0 where
  pub transmitters : AreTransmitters ts
  pub net : StandsFor ts playout.net steps
  pub names : AreNames ts playout.names.items
  pub sent : AreSent ts steps playout.sent.items
  pub few : (who : ℕ) (n : ℕ) → slice_get playout.sent.items who ≡ Some n → n ≤ 5 * playout.steps
  pub count : playout.steps ≡ packets_given steps

-- the playout stands for some list of steps
pub record IsSomePlayout (playout : Playout) : Type 0 where
  pub ts : List Transmitter
  pub steps : List Step
  pub playing : IsPlayout ts playout steps

-- the playout stands for some list of steps, and has a transmitter at place `who`
pub record HasTransmitter (who : ℕ) (playout : Playout) : Type 0 where
  pub ts : List Transmitter
  pub steps : List Step
  pub playing : IsPlayout ts playout steps
  pub within : who < length ts
