-- Runs of segments (the profile's own). A segment is the list of its 832 symbols, and a run is a list of segments. A
-- run begins with a segment that looks like a field sync. After each field sync 312 data segments follow, whatever they
-- hold, and then the next field sync is due.
use Rattle.std.specs.Prelude.{ℕ, ℤ, ◌%◌, ◌==◌, Bool, if◌then◌else◌, Option, Some, None, option_to_list, List, [], ◌∷◌}
use Rattle.std.specs.Prelude.{◌++◌, length, fold}
use Rattle.dtx_frame.specs.Detection.{looks_like}
use Rattle.dtx_receiver.specs.declared.tracking.Tracking.{Tracking}
use Rattle.dtx_receiver.specs.declared.tracking.Tracking.TheVariants.{Searching, Began, Sync, Data, Ended}

-- whether a field sync is due as the next segment of the run
unfoldable pub sync_due : List (List ℤ) → Bool
sync_due run = length run % 313 == 0

-- the runs that have ended, and the one that is on
pub record Tracked : Type 0 where
  pub ended : List (List (List ℤ))
  pub run : Option (List (List ℤ))

-- The runs after one segment more. Where no run is on, one begins with a segment that looks like a field sync. Where a
-- field sync is due, the run goes on with a segment that looks like one, and else ends before the segment.
abbrev pub followed : List (List (List ℤ)) → Option (List (List ℤ)) → List ℤ → Tracked
followed ended None x = record { ended = ended; run = if looks_like x then Some (x ∷ []) else None }
followed ended (Some run) x =
    if sync_due run
    then (if looks_like x then record {
      ended = ended;
      run = Some (run ++ x ∷ []);
    } else record { ended = ended ++ run ∷ []; run = None })
    else record { ended = ended; run = Some (run ++ x ∷ []) }

-- the runs after all segments of a list
unfoldable pub tracked : List (List ℤ) → Tracked
tracked segments = fold (λ t x. followed t.ended t.run x) (record { ended = []; run = None }) segments

-- all runs of a list: one that is on at its end ends there
unfoldable pub runs : List (List ℤ) → List (List (List ℤ))
runs segments = (tracked segments).ended ++ option_to_list (tracked segments).run

-- what a segment is, by the run that is on before it and by whether it looks like a field sync
abbrev pub tracking_of : Option (List (List ℤ)) → Bool → Tracking
tracking_of None looks = if looks then Began else Searching
tracking_of (Some run) looks = if sync_due run then (if looks then Sync else Ended) else Data

-- what the segment after a list is
unfoldable pub tracking : List (List ℤ) → List ℤ → Tracking
tracking segments x = tracking_of (tracked segments).run (looks_like x)

-- the number of runs that begin with a segment of this kind
abbrev pub begun : Tracking → ℕ
begun Began = 1
begun Searching = 0
begun Sync = 0
begun Data = 0
begun Ended = 0
