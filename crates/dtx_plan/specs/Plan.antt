-- What the bytes of a file say as a plan, or as a file of changes, or the first rule that they break (the profile's
-- own).
use Rattle.std.specs.Prelude.{ℕ, nat_lt, if◌then◌else◌, List, length, Option, Some, None, Result, Ok, codes, [], ◌∷◌}
use Rattle.std.specs.Str.{is_utf8}
use Rattle.toml.specs.Data.{Members, get_member}
use Rattle.toml.specs.Parse.{parse_document}
use Rattle.dtx_plan.specs.declared.key.PlanKey.TheVariants as key
use Rattle.dtx_plan.specs.declared.rule.PlanRule.TheVariants.{Size, Text}
use Rattle.dtx_plan.specs.declared.refusal.PlanNo.{PlanNo}
use Rattle.dtx_plan.specs.declared.plan.Plan.{Plan}
use Rattle.dtx_plan.specs.declared.damage.Damage.{Damage}
use Rattle.dtx_plan.specs.Rows.{◌>>=◌, refused, known, whole, array, array_or_none, entries}
use Rattle.dtx_plan.specs.TransmitterTable.{transmitter}
use Rattle.dtx_plan.specs.DamageTable.{damage}
use Rattle.dtx_plan.specs.NetTable.{net}

-- the plan that the root of its file says
unfoldable pub plan : Members → Result Plan PlanNo
plan root = do
  _ ← known (codes "start" ∷ codes "max_delay" ∷ codes "transmitter" ∷ codes "net" ∷ []) root key.Whole 0
  start ← whole (get_member (codes "start") root) key.Start 0 0 9999999
  max_delay ← whole (get_member (codes "max_delay") root) key.MaxDelay 0 0 9999999
  items ← array (get_member (codes "transmitter") root) key.Transmitter 0 1 1020
  transmitters ← entries transmitter [] items
  network ← net transmitters root
  Ok (record { start = start; max_delay = max_delay; transmitters = transmitters; net = network })

-- the damage that the root of a file of changes says: its one key is `damage`
unfoldable pub changes : Members → Result (List Damage) PlanNo
changes root = do
  _ ← known (codes "damage" ∷ []) root key.Whole 0
  items ← array_or_none (get_member (codes "damage") root) key.Damage 0 100000
  entries damage [] items

-- the table of a TOML text, where the bytes are one
abbrev pub table_in : List ℕ → Option Members
table_in bytes = if is_utf8 bytes then parse_document bytes else None

-- text: the bytes are a TOML text
abbrev pub text_of : Option Members → Result Members PlanNo
text_of None = refused key.Whole 0 Text
text_of (Some root) = Ok root

-- size; text
abbrev pub root_of : List ℕ → Result Members PlanNo
root_of bytes = if nat_lt 16777216 (length bytes) then refused key.Whole 0 Size else text_of (table_in bytes)

-- the plan that a file says, or the first rule that it breaks
abbrev pub plan_of : List ℕ → Result Plan PlanNo
plan_of bytes = root_of bytes >>= plan

-- the damage that a file of changes says, or the first rule that it breaks
abbrev pub changes_of : List ℕ → Result (List Damage) PlanNo
changes_of bytes = root_of bytes >>= changes
