-- What `soft` makes of a symbol file (ATSC A/53 Part 2, trellis coding). In each field of a run, the data segments in
-- whole groups are softened: the symbols of each coder become those of its least path.
use Rattle.std.specs.Prelude.{ℕ, ℤ, ◌-◌, ◌*◌, ◌/◌, ◌%◌, min, true, if◌then◌else◌, Option, Some, None, List, []}
use Rattle.std.specs.Prelude.{◌∷◌, ◌++◌, length, map, sum, take, drop, slice_index_or, unwrap_or}
use Rattle.std.proofs.Common.{zero, suc}
use Rattle.std.specs.List.{range_with_len}
use Rattle.dtx_receiver.specs.Runs.{sync_due, tracked}
use Rattle.dtx_soft.specs.Softened.{softened, softened_cost}
use Rattle.dtx_meaning.specs.Status.{done}
use Rattle.dtx_engine.specs.Made.{only}
use Rattle.dtx_engine.specs.Recipe.{Recipe}
use Rattle.dtx_words.specs.declared.rows.Command.TheVariants.{Soft}
use Rattle.dtx_files.specs.Symbols.{segment_bytes}
use Rattle.dtx_forms.specs.Job.{Job}
use Rattle.dtx_forms.specs.Shapes as shapes
use Rattle.dtx_forms.specs.Transform.{transform_job}
use Rattle.dtx_recipes.specs.SymbolFile.{file_segments}

-- ---- places

-- The place in its field, 0 to 311, of the next segment of a run. `None` where a sync is due or there is no run, so
-- that the next segment isn't data.
abbrev pub place_in : Option (List (List ℤ)) → Option ℕ
place_in None = None
place_in (Some run) = if sync_due run then None else Some (length run % 313 - 1)

-- the place of the segment behind these
unfoldable pub next_place : List (List ℤ) → Option ℕ
next_place segments = place_in (tracked segments).run

-- the place of segment i of these
abbrev pub place_at : List (List ℤ) → ℕ → Option ℕ
place_at segments i = next_place (take i segments)

-- ---- symbols

-- the data segments in whole groups, of the field whose first data segment is segment n
unfoldable pub in_groups : List (List ℤ) → ℕ → List (List ℤ)
in_groups segments n = take (4 * (min 312 (length segments - n) / 4)) (drop n segments)

-- What segment i becomes, which has this place in its field. It stays as it is where it isn't data or stands in no
-- whole group.
abbrev pub soft_from : List (List ℤ) → ℕ → Option ℕ → List ℤ
soft_from segments i None = slice_index_or segments i []
soft_from segments i (Some place) =
    slice_index_or (softened 1 (in_groups segments (i - place))) place (slice_index_or segments i [])

unfoldable pub soft_at : List (List ℤ) → ℕ → List ℤ
soft_at segments i = soft_from segments i (place_at segments i)

-- what all segments become
unfoldable pub soft_symbols : List (List ℤ) → List (List ℤ)
soft_symbols segments = map (soft_at segments) (range_with_len 0 (length segments))

-- ---- numbers

-- what the whole groups of a field count for, where segment i is the field's first data segment; else 0
abbrev pub count_from : (List (List ℤ) → ℕ) → List (List ℤ) → ℕ → Option ℕ → ℕ
count_from count segments i None = 0
count_from count segments i (Some zero) = count (in_groups segments i)
count_from count segments i (Some (suc place)) = 0

-- the sum of these counts over all fields that begin among the first n segments
unfoldable pub field_sum : (List (List ℤ) → ℕ) → List (List ℤ) → ℕ → ℕ
field_sum count segments n = sum (map (λ i. count_from count segments i (place_at segments i)) (range_with_len 0 n))

-- 1 where there is a whole group, else 0
abbrev pub has_group : List (List ℤ) → ℕ
has_group groups = min 1 (length groups)

-- the line's numbers: the segments, the fields with a whole group, what all least paths cost, and the bytes behind the
-- last whole segment
abbrev pub soft_numbers : List (List ℤ) → ℕ → List ℕ
soft_numbers segments loose =
    length segments ∷ field_sum has_group segments (length segments)
    ∷ field_sum (softened_cost 1) segments (length segments) ∷ loose ∷ []

-- ---- piece by piece

-- how many data segments the current field has, which waits for its end, and how many segments stand before them
abbrev pub pending : List (List ℤ) → ℕ
pending segments = unwrap_or (next_place segments) 0

abbrev pub ahead : List (List ℤ) → ℕ
ahead segments = length segments - pending segments

-- what is made while these segments come, and what the end adds
unfoldable pub soft_so_far : List (List ℤ) → List (List ℤ)
soft_so_far segments = map (soft_at segments) (range_with_len 0 (ahead segments))

unfoldable pub soft_rest : List (List ℤ) → List (List ℤ)
soft_rest segments = map (soft_at segments) (range_with_len (ahead segments) (pending segments))

abbrev pub softening : Recipe
softening = record {
  allows = λ _ _. true;
  made = λ bytes. only (segment_bytes (soft_so_far (file_segments bytes)));
  rest = λ bytes. only (segment_bytes (soft_rest (file_segments bytes)));
  answer = λ bytes loose. done (soft_numbers (file_segments bytes) loose);
}

-- the command `soft IN OUT`
abbrev pub soft_job : Job
soft_job = transform_job Soft shapes.segments softening

-- ---- a field

-- those of a field's first data segments that stand in whole groups
unfoldable pub groups_in : List (List ℤ) → List (List ℤ)
groups_in rows = take (4 * (length rows / 4)) rows

-- the first data segments of a field, with those in whole groups softened
unfoldable pub flushed : List (List ℤ) → List (List ℤ)
flushed rows = softened 1 (groups_in rows) ++ drop (4 * (length rows / 4)) rows
