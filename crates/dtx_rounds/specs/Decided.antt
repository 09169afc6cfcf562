-- What a round leaves of a field that it holds.
use Rattle.std.specs.Prelude.{ℕ, ℤ, ◌≡◌, false, if◌then◌else◌, List, take}
use Rattle.dtx_pins.specs.PinnedField.{rows_moved}
use Rattle.dtx_rounds.specs.FieldRound.{field_cost, field_rounded}
use Rattle.dtx_rounds.specs.declared.field.Field.{Field}

-- the field's segments as they were received, and as they were decided
abbrev pub heard_rows : Field → List (List ℤ)
heard_rows field = take field.count field.heard.items

abbrev pub decided_rows : Field → List (List ℤ)
decided_rows field = take field.count field.decided.items

-- Where no byte more is known than before, its segments and its cost stay.
pub record IsDecided (scale : ℕ) (old new : Field) : Type 0 where
  pub decided : decided_rows new
      ≡ (if old.knows_more then field_rounded scale (heard_rows old) old.known.items (decided_rows old)
      else decided_rows old)
  pub cost : new.cost ≡ (if old.knows_more then field_cost scale (heard_rows old) old.known.items else old.cost)
  pub moved : new.moved ≡ rows_moved (decided_rows old) (decided_rows new)
  pub count : new.count ≡ old.count
  pub heard : new.heard.items ≡ old.heard.items
  pub known : new.known.items ≡ old.known.items
  pub words : new.words ≡ old.words
  pub knows_more : new.knows_more ≡ false
