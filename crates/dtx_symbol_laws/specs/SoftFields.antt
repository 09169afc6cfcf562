-- The fields of the runs of a symbol file, and what `soft` makes of whole files.
use Rattle.std.specs.Prelude.{ℕ, ℤ, ◌+◌, ◌*◌, ◌/◌, ◌%◌, zero, suc, Option, Some, None, List, [], ◌∷◌, length, map}
use Rattle.std.specs.Prelude.{take, drop}
use Rattle.std.specs.List.{range_with_len, flat_map}
use Rattle.dtx_coder.specs.Stream.{a53}
use Rattle.dtx_engine.specs.Made.{only, outputs_of}
use Rattle.dtx_files.specs.Symbols.{segment_bytes}
use Rattle.dtx_meaning.specs.Meaning.{Meaning}
use Rattle.dtx_meaning.specs.Status.{done, ended}
use Rattle.dtx_meaning.specs.declared.status.Status.TheVariants.{TooLong}
use Rattle.dtx_packets.specs.Packets.{packets_of, whole_packets}
use Rattle.dtx_receiver.specs.Runs.{runs}
use Rattle.dtx_sizes.specs.declared.limits.TheConstants.{MOST_SEGMENTS}
use Rattle.dtx_recipes.specs.Soft.{groups_in, soft_numbers, soft_so_far, soft_symbols}
use Rattle.dtx_recipes.specs.SymbolFile.{file_segments, whole_segments, symbol_bytes}

-- ---- fields

-- The place in its field of a segment that stands this many segments behind its run's last field sync. The sync itself,
-- at 0, is no data segment.
abbrev pub place_behind : ℕ → Option ℕ
place_behind zero = None
place_behind (suc place) = Some place

-- the data segments in whole groups, of field f of a run
abbrev pub field_groups : List (List ℤ) → ℕ → List (List ℤ)
field_groups run f = groups_in (take 312 (drop (313 * f + 1) run))

-- the same for each field of a run that has a data segment
unfoldable pub fields_in : List (List ℤ) → List (List (List ℤ))
fields_in run = map (field_groups run) (range_with_len 0 ((length run + 311) / 313))

-- the same for all runs
unfoldable pub fields_of : List (List ℤ) → List (List (List ℤ))
fields_of segments = flat_map fields_in (runs segments)

-- ---- files

-- what `soft` answers and writes for all segments of a file
abbrev pub softened_of : List (List ℕ) → List ℕ → Meaning
softened_of names file = record {
  outcome = done (soft_numbers (file_segments file) (length file % 832));
  outputs = outputs_of names (only (segment_bytes (soft_symbols (file_segments file))));
}

-- The same for a file of more than MOST_SEGMENTS segments: the answer is `TooLong`. OUT is what the first MOST_SEGMENTS
-- segments give, but for their last field where it waits for its end.
abbrev pub softened_until : List (List ℕ) → List ℕ → Meaning
softened_until names file = record {
  outcome = ended TooLong;
  outputs = outputs_of names (only (segment_bytes (soft_so_far (take MOST_SEGMENTS (file_segments file)))));
}

-- the same where the whole segments are copied
abbrev pub copied_of : List (List ℕ) → List ℕ → Meaning
copied_of names file = record {
  outcome = done (whole_segments file ∷ 0 ∷ 0 ∷ (length file % 832) ∷ []);
  outputs = outputs_of names (only (take (832 * whole_segments file) file));
}

-- The same for the symbol file of a stream: OUT is the file's own bytes, at cost 0. There is a field for each 78 groups
-- of four packets that are begun.
abbrev pub kept_of : List (List ℕ) → List ℕ → Meaning
kept_of names stream = record {
  outcome = done (length (a53 (packets_of stream)) ∷ ((whole_packets stream / 4 + 77) / 78) ∷ 0 ∷ 0 ∷ []);
  outputs = outputs_of names (only (symbol_bytes (packets_of stream)));
}
