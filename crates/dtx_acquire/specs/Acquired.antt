-- What is acquired of a capture that begins anywhere (the profile's own; ATSC A/53 Part 2, data segment sync and data
-- field sync). It is the fields of its runs, with their symbols decided and their syncs restored. The syncs of a run
-- stand 313 segments apart. A sync and the data segments after it are a field.
use Rattle.std.specs.Prelude.{ℕ, ℤ, ◌+◌, ◌-◌, ◌*◌, ◌/◌, ◌&&◌, nat_le, nat_lt, Bool, true, false, not, if◌then◌else◌}
use Rattle.std.specs.Prelude.{Option, Some, None, option_map, List, [], ◌∷◌, ◌++◌, length, map, sum, take, drop, filter}
use Rattle.std.specs.Prelude.{◌≡◌, pos, negsuc, ◌<◌, min}
use Rattle.std.proofs.Common.{zero, suc}
use Rattle.std.specs.List.{flat_map, range_with_len}
use Rattle.dtx_frame.specs.Segments.{field_sync, segment_sync}
use Rattle.dtx_soft.specs.Softened.{softened, softened_cost}
use Rattle.dtx_acquire.specs.Agreement.{agrees, is_second, least_from}
use Rattle.dtx_trellis.specs.Trellis.{symbol_of}

-- The level of a symbol v is (v + 8 * scale) div (2 * scale), rounded down, or 0 or 7 where that lies outside.
unfoldable pub scaled_level : ℕ → ℤ → ℕ
scaled_level scale (pos n) = min 7 ((8 * scale + n) / (2 * scale))
scaled_level scale (negsuc n) = (8 * scale - suc n) / (2 * scale)

-- the symbol of that level: twice the level, less 7
abbrev pub decided : ℕ → ℤ → ℤ
decided scale symbol = symbol_of (scaled_level scale symbol)

-- this is the symbol's level at the scale
pub record IsLevel (scale : ℕ) (symbol : ℤ) (level : ℕ) : Type 0 where
  pub is : level ≡ scaled_level scale symbol
  pub small : level < 8

-- ---- syncs

-- a sync of a run: its place, and whether the run begins with it
pub record Sync : Type 0 where
  pub place : ℕ
  pub begins : Bool

-- the sync that begins a run at this place, if there is one
abbrev pub begun_at : Option ℕ → Option Sync
begun_at place = option_map (λ p. record { place = p; begins = true }) place

-- where the next sync is due: 313 segments of 832 symbols after the one at this place
abbrev pub due : ℕ → ℕ
due place = place + 260416

-- whether a whole segment stands where the next sync is due
unfoldable pub is_met : List ℤ → ℕ → Bool
is_met symbols place = nat_le (due place + 832) (length symbols)

-- The next sync after the one at this place. The run goes on if the place where it is due agrees. Otherwise another run
-- begins at the least place after this one that agrees. If no whole segment stands where it is due, the run is the
-- last.
unfoldable pub behind : List ℤ → ℕ → Option Sync
behind symbols place =
    if is_met symbols place then
    (if agrees symbols (due place) then Some (record { place = due place; begins = false })
    else begun_at (least_from symbols (place + 1)))
    else None

-- the syncs from this one on, at most n
unfoldable pub syncs_from : List ℤ → ℕ → Option Sync → List Sync
syncs_from symbols zero sync = []
syncs_from symbols (suc n) None = []
syncs_from symbols (suc n) (Some sync) = sync ∷ syncs_from symbols n (behind symbols sync.place)

-- All syncs, of which the first is at the least place that agrees. `begins` says whether that one begins a run, since
-- these symbols may follow others.
unfoldable pub all_syncs : Bool → List ℤ → List Sync
all_syncs begins symbols =
    syncs_from symbols (length symbols)
    (option_map (λ p. record { place = p; begins = begins }) (least_from symbols 0))

-- ---- fields

-- a field: whether a run begins with it, and its segments, of which the first is its sync
pub record Field : Type 0 where
  pub begins : Bool
  pub segments : List (List ℤ)

-- `count` segments of 832 symbols, from a place on
unfoldable pub segments_from : List ℤ → ℕ → ℕ → List (List ℤ)
segments_from symbols place count = map (λ i. take 832 (drop (place + 832 * i) symbols)) (range_with_len 0 count)

-- How many segments are given of a field whose next sync isn't where it is due. `Some` is the next place that agrees.
-- If that comes earlier than the due place, symbols were lost, and no segment is given.
abbrev pub unless_lost : ℕ → Option ℕ → ℕ
unless_lost place None = 313
unless_lost place (Some next) = if nat_lt next (due place) then 0 else 313

-- how many segments are given of the field whose sync is at this place: at the symbols' end, those that are whole
unfoldable pub given_at : List ℤ → ℕ → ℕ
given_at symbols place =
    if is_met symbols place then
    (if agrees symbols (due place) then 313 else unless_lost place (least_from symbols (place + 1)))
    else (length symbols - place) / 832

unfoldable pub field_at : List ℤ → Sync → Field
field_at symbols sync =
    record { begins = sync.begins; segments = segments_from symbols sync.place (given_at symbols sync.place) }

-- The fields that are wanted. A field is met if what it gives is settled, whatever follows the symbols. Otherwise it
-- stands at their end.
unfoldable pub fields_where : (Bool → Bool) → Bool → List ℤ → List Field
fields_where wanted begins symbols =
    map (field_at symbols) (filter (λ sync. wanted (is_met symbols sync.place)) (all_syncs begins symbols))

abbrev pub all_fields : List ℤ → List Field
all_fields symbols = fields_where (λ met. true) true symbols

-- ---- what a field gives

-- the data segments of a field that are in whole groups of four
unfoldable pub in_groups : List (List ℤ) → List (List ℤ)
in_groups segments = take (4 * (length segments / 4)) segments

-- the data segments after the whole groups
unfoldable pub behind_groups : List (List ℤ) → List (List ℤ)
behind_groups segments = drop (4 * (length segments / 4)) segments

-- the field sync, restored; its last twelve symbols are decided one by one
unfoldable pub restored_sync : ℕ → List ℤ → List ℤ
restored_sync scale segment = field_sync (is_second segment) (map (decided scale) (drop 820 segment))

-- a data segment, restored: its segment sync, and its symbols decided
unfoldable pub restored_data : ℕ → List ℤ → List ℤ
restored_data scale segment = segment_sync ++ map (decided scale) (drop 4 segment)

-- The data segments of a field, restored. In whole groups the symbols of each coder become those of its least path. The
-- others are decided one by one. (A symbol of a least path is the symbol of a level. To decide it leaves its level.)
unfoldable pub restored_field : ℕ → List (List ℤ) → List (List ℤ)
restored_field scale segments =
    map (restored_data scale) (softened scale (in_groups segments) ++ behind_groups segments)

abbrev pub restored : ℕ → List (List ℤ) → List (List ℤ)
restored scale [] = []
restored scale (sync ∷ segments) = restored_sync scale sync ∷ restored_field scale segments

-- what the least paths of a field cost
abbrev pub path_cost : ℕ → List (List ℤ) → ℕ
path_cost scale [] = 0
path_cost scale (sync ∷ segments) = softened_cost scale (in_groups segments)

-- 1 if the field begins a run and something of it is given
abbrev pub begun : Field → ℕ
begun field = if field.begins && nat_lt 0 (length field.segments) then 1 else 0

-- ---- what all fields give

-- the segments of fields, as they were received
abbrev pub heard_in : List Field → List (List ℤ)
heard_in fields = flat_map (λ field. field.segments) fields

unfoldable pub restored_of : ℕ → List Field → List (List ℤ)
restored_of scale fields = flat_map (λ field. restored scale field.segments) fields

unfoldable pub runs_of : List Field → ℕ
runs_of fields = sum (map begun fields)

unfoldable pub cost_of : ℕ → List Field → ℕ
cost_of scale fields = sum (map (λ field. path_cost scale field.segments) fields)

-- all that is acquired
unfoldable pub acquired : ℕ → List ℤ → List (List ℤ)
acquired scale symbols = restored_of scale (all_fields symbols)

-- how many runs have given segments
unfoldable pub acquired_runs : List ℤ → ℕ
acquired_runs symbols = runs_of (all_fields symbols)

-- the sum of the costs of all least paths
unfoldable pub acquired_cost : ℕ → List ℤ → ℕ
acquired_cost scale symbols = cost_of scale (all_fields symbols)

-- ---- piece by piece

-- the fields of these symbols that are settled, whatever follows
abbrev pub settled_fields : List ℤ → List Field
settled_fields symbols = fields_where (λ met. met) true symbols

unfoldable pub acquired_so_far : ℕ → List ℤ → List (List ℤ)
acquired_so_far scale symbols = restored_of scale (settled_fields symbols)

unfoldable pub heard_so_far : List ℤ → List (List ℤ)
heard_so_far symbols = heard_in (settled_fields symbols)

-- the fields that the symbols' end adds
abbrev pub last_fields : List ℤ → List Field
last_fields symbols = fields_where not true symbols

unfoldable pub acquired_rest : ℕ → List ℤ → List (List ℤ)
acquired_rest scale symbols = restored_of scale (last_fields symbols)

unfoldable pub heard_rest : List ℤ → List (List ℤ)
heard_rest symbols = heard_in (last_fields symbols)

-- The same segments are acquired of both lists of symbols, from as many runs, at the same cost.
pub record IsSame (scale : ℕ) (s t : List ℤ) : Type 0 where
  pub segments : acquired scale s ≡ acquired scale t
  pub runs : acquired_runs s ≡ acquired_runs t
  pub costs : acquired_cost scale s ≡ acquired_cost scale t
