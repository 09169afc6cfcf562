-- A field of a run on its way through a round.
use Rattle.std.specs.Prelude.{ℕ, ℤ, ◌≡◌, ◌+◌, ◌*◌, ◌<◌, ◌≤◌, nat_lt, false, if◌then◌else◌, Option, Some, None, is_some}
use Rattle.std.specs.Prelude.{List, drop, length, map, slice_index_or, sum, take, []}
use Rattle.std.specs.List.{range_with_len}
use Rattle.dtx_receiver.specs.Bytes.{bytes_in}
use Rattle.dtx_pins.specs.PinnedField.{rows_moved}
use Rattle.dtx_rounds.specs.Decided.{IsDecided, decided_rows, heard_rows}
use Rattle.dtx_rounds.specs.FieldRound.{field_cost, field_rounded}
use Rattle.dtx_rounds.specs.Found.{AreFound, bytes_of, bytes_there, code_byte, new_code, whole_segments}
use Rattle.dtx_rounds.specs.Known.{known_bytes, known_word}
use Rattle.dtx_rounds.specs.Rounds.{coder_cost, rounded}
use Rattle.dtx_rounds.specs.declared.field.Field.{Field}

-- each segment has 832 symbols
abbrev pub AreSegments : List (List ℤ) → Type 0
AreSegments segments = (i : ℕ) → i < length segments → length (slice_index_or segments i []) ≡ 832

-- the segments of field f
abbrev pub rows_of : List (List ℤ) → ℕ → List (List ℤ)
rows_of segments f = take 313 (drop (313 * f) segments)

-- each word that is known of some bytes is known of others, with the same correction
abbrev pub StayKnown : (before now : List ℕ) → Type 0
StayKnown before now = (k : ℕ) (code : List ℕ) → known_word before k ≡ Some code → known_word now k ≡ Some code

-- The corrections of a run's words. Those of the first m words are sought among the bytes `now`, and those of the
-- others among the bytes `before`, which the run had before the last round.
unfoldable pub codes_upto : (before now : List ℕ) → ℕ → ℕ → Option (List ℕ)
codes_upto before now m k = if nat_lt k m then known_word now k else known_word before k

-- ---- a field in a run

-- Where no byte more is known than those by which a field was decided, a round leaves its segments.
pub record IsSettled (scale : ℕ) (field : Field) : Type 0 where
  pub segments : field.knows_more ≡ false
      → field_rounded scale (heard_rows field) field.known.items (decided_rows field) ≡ decided_rows field
  pub cost : field.knows_more ≡ false → field.cost ≡ field_cost scale (heard_rows field) field.known.items

-- It is field f of a run, whose segments are `given`, and `heard` as they were received. These corrections are known.
pub record IsInRun (scale : ℕ) (heard given : List (List ℤ)) (codes : ℕ → Option (List ℕ)) (f : ℕ) (field : Field)
    : Type 0 where
  pub count : field.count ≡ length (rows_of given f)
  pub heard_are : heard_rows field ≡ rows_of heard f
  pub decided : decided_rows field ≡ rows_of given f
  pub known : (n : ℕ) → n < 64584 → slice_index_or field.known.items n None ≡ code_byte codes (64584 * f + n)
  pub words : field.words ≡ map (λ k. is_some (codes (312 * f + k))) (range_with_len 0 312)
  pub settled : IsSettled scale field

-- ---- a field that is held

-- how many data segments of field f are in whole groups
abbrev pub whole_in : List (List ℤ) → ℕ → ℕ
whole_in given f = whole_segments (length (rows_of given f))

-- A round holds field f of a run, with the bytes of its groups. The words of the fields before it were sought. `before`
-- are the bytes that the run had before the last round.
pub record Holds (scale : ℕ) (heard given : List (List ℤ)) (before : List ℕ) (f : ℕ) (field : Field) : Type 0 where
  pub held : IsInRun scale heard given (codes_upto before (bytes_in given) (312 * f)) f field
  pub bytes : take (207 * whole_in given f) (bytes_of field)
      ≡ take (207 * whole_in given f) (drop (64584 * f) (bytes_in given))

-- ---- its round

-- Words of the held field were sought, among its bytes and those of the next field, and then its symbols were decided.
pub record IsTurned (scale : ℕ) (held next new new_next : Field) : Type 0 where
  pub between : Field
  pub words : AreFound (new_code (bytes_there held next) held.words) held next between new_next
  pub decided : IsDecided scale between new

-- It is field f of the run after a round, and what its paths cost and how many symbols moved.
pub record IsRounded (scale : ℕ) (heard given : List (List ℤ)) (f : ℕ) (field : Field) : Type 0 where
  pub turned : IsInRun scale heard (rounded scale heard given) (known_word (bytes_in given)) f field
  pub done : field.knows_more ≡ false
  pub cost : field.cost ≡ sum (map (coder_cost scale heard (known_bytes (bytes_in given)) f) (range_with_len 0 12))
  pub moved : field.moved ≡ rows_moved (rows_of given f) (rows_of (rounded scale heard given) f)

-- ---- from field to field

-- A round holds a field of a run, and the next field comes. The held one is given after the round over the run, and the
-- next one is held.
abbrev pub GoesOn : ℕ → (held next made kept : Field) → Type 0
GoesOn scale held next made kept =
    (heard given : List (List ℤ)) (before : List ℕ) (f : ℕ) → AreSegments given → StayKnown before (bytes_in given)
    → 313 * (f + 1) < length given → Holds scale heard given before f held
    → IsInRun scale heard given (known_word before) (f + 1) next
    → IsRounded scale heard given f made × Holds scale heard given before (f + 1) kept

-- A round holds the last field of a run. It is given after the round.
abbrev pub GivesLast : ℕ → (held made : Field) → Type 0
GivesLast scale held made =
    (heard given : List (List ℤ)) (before : List ℕ) (f : ℕ) → AreSegments given → StayKnown before (bytes_in given)
    → 313 * f < length given → length given ≤ 313 * (f + 1) → Holds scale heard given before f held
    → IsRounded scale heard given f made
