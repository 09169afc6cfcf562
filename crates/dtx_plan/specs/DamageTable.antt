-- The rows of an entry of the array `damage`.
use Rattle.std.specs.Prelude.{ℕ, ◌+◌, pos, negsuc, codes, nat_lt, if◌then◌else◌, List, [], ◌∷◌, length, Result, Ok}
use Rattle.std.specs.List.{fold}
use Rattle.toml.specs.Data.{Data, get_member}
use Rattle.dtx_plan.specs.declared.key.PlanKey.TheVariants as key
use Rattle.dtx_plan.specs.declared.rule.PlanRule.TheVariants.{Order}
use Rattle.dtx_plan.specs.declared.refusal.PlanNo.{PlanNo}
use Rattle.dtx_plan.specs.declared.damage.Damage.{Damage}
use Rattle.dtx_plan.specs.Rows.{◌>>=◌, refused, table, known, whole, whole_or, signed}

-- where the last entry ends, and 0 before the first
abbrev pub last_end : List Damage → ℕ
last_end ds = fold (λ _ d. d.at + d.count) 0 ds

-- order: the entry begins where the entry before it ends, or later
abbrev pub behind : ℕ → ℕ → ℕ → Result (Unit {0}) PlanNo
behind at end item = if nat_lt at end then refused key.DamageAt item Order else Ok tt

-- one entry, where the entry before it ends at offset `end`
unfoldable pub damage_from : ℕ → ℕ → Data → Result Damage PlanNo
damage_from end item d = do
  entry ← table d key.Damage item
  _ ← known (codes "at" ∷ codes "count" ∷ codes "put" ∷ []) entry key.Damage item
  at ← whole (get_member (codes "at") entry) key.DamageAt item 0 520831999999
  _ ← behind at end item
  count ← whole_or 1 (get_member (codes "count") entry) key.DamageCount item 1 520832000000
  put ← signed (get_member (codes "put") entry) key.DamagePut item (negsuc 127) (pos 127)
  Ok (record { at = at; count = count; put = put })

-- the entry that follows the earlier ones
abbrev pub damage : List Damage → Data → Result Damage PlanNo
damage earlier d = damage_from (last_end earlier) (length earlier) d
