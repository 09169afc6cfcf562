-- What the engine of `soft` keeps.
use Rattle.std.specs.Prelude.{◌≡◌, ℕ, ℤ, ◌*◌, ◌<◌, ◌≤◌, List, ◌++◌, length, take, drop}
use Rattle.std.specs.Prelude.{unwrap_or, vec_len}
use Rattle.dtx_files.specs.Symbols.{segment_bytes}
use Rattle.dtx_soft.specs.Softened.{softened_cost}
use Rattle.dtx_jobs.specs.declared.softening.Softening.{Softening}
use Rattle.dtx_jobs.specs.declared.softening.TheConstants.{MOST_COST}
use Rattle.dtx_recipes.specs.Soft.{field_sum, has_group, next_place, pending, ahead, soft_so_far}
use Rattle.dtx_recipes.specs.SymbolFile.{file_segments}

-- how many data segments of the current field are kept
abbrev pub kept_rows : Softening → ℕ
kept_rows kept = unwrap_or kept.place 0

-- The state after these segments. It has the place of the next one, the data segments of the current field, and the
-- numbers of the fields before it.
pub record IsSoftening (kept : Softening) (segments : List (List ℤ)) : Type 0 where
  pub place : kept.place ≡ next_place segments
  pub field : take (pending segments) kept.field.items ≡ drop (ahead segments) segments
  pub count : kept.segments ≡ length segments
  pub fields : kept.fields ≡ field_sum has_group segments (ahead segments)
  pub cost : kept.cost ≡ field_sum (softened_cost 1) segments (ahead segments)

-- that state, where what is made so far of these segments is `front`, and behind it the symbols that are held
pub record IsGathering (kept : Softening) (segments : List (List ℤ)) (front : List ℕ) : Type 0 where
  pub softening : IsSoftening kept segments
  pub bytes : segment_bytes (soft_so_far segments) ≡ front ++ kept.symbols

-- There is room for a field, and the decoder has the standard's levels. The numbers are within the bounds for as many
-- segments.
pub record IsKept (kept : Softening) : Type 0 where
  pub room : vec_len kept.field ≡ 312
  pub small : kept_rows kept < 312
  pub scale : kept.decoder ≡ 1
  pub fields : kept.fields ≤ kept.segments
  pub cost : kept.cost ≤ MOST_COST * kept.segments

-- the state after the segments of these bytes
pub record WasSoftened (kept : Softening) (bytes : List ℕ) : Type 0 where
  pub softening : IsSoftening kept (file_segments bytes)
  pub is_kept : IsKept kept
