-- The rows of an entry of the array `transmitter`.
use Rattle.std.specs.Prelude.{ℕ, pos, negsuc, codes, nat_eq, Bool, if◌then◌else◌, List, [], ◌∷◌, length, map, Option}
use Rattle.std.specs.Prelude.{position, Result, Ok, ◌≡◌}
use Rattle.std.specs.List.{list_any}
use Rattle.toml.specs.Data.{Data, get_member}
use Rattle.dtx_plan.specs.declared.key.PlanKey.TheVariants as key
use Rattle.dtx_plan.specs.declared.rule.PlanRule.TheVariants.{Twice}
use Rattle.dtx_plan.specs.declared.refusal.PlanNo.{PlanNo}
use Rattle.dtx_plan.specs.declared.transmitter.Transmitter.{Transmitter}
use Rattle.dtx_plan.specs.Rows.{◌>>=◌, refused, table, known, whole, whole_or, signed}
use Rattle.std.specs.BTreeMap.{BTreeMap, get}
use Rattle.std.specs.Ordering.{nat_cmp}

-- the addresses of transmitters
abbrev pub addresses_of : List Transmitter → List ℕ
addresses_of ts = map (λ t. t.address) ts

-- a transmitter has the address
abbrev pub has_address : ℕ → List Transmitter → Bool
has_address address ts = list_any (nat_eq address) (addresses_of ts)

-- the place in the list of the transmitter with this address
unfoldable pub transmitter_place : ℕ → List Transmitter → Option ℕ
transmitter_place address ts = position (nat_eq address) (addresses_of ts)

-- twice: no earlier entry has the address
abbrev pub once : ℕ → List Transmitter → ℕ → Result (Unit {0}) PlanNo
once address earlier item = if has_address address earlier then refused key.Address item Twice else Ok tt

-- the entry that follows the earlier ones
unfoldable pub transmitter : List Transmitter → Data → Result Transmitter PlanNo
transmitter earlier d = do
  entry ← table d key.Transmitter (length earlier)
  _ ← known (codes "address" ∷ codes "offset" ∷ codes "delay" ∷ []) entry key.Transmitter (length earlier)
  address ← whole (get_member (codes "address") entry) key.Address (length earlier) 0 65535
  _ ← once address earlier (length earlier)
  offset ← signed (get_member (codes "offset") entry) key.Offset (length earlier) (negsuc 32767) (pos 32767)
  delay ← whole_or 0 (get_member (codes "delay") entry) key.Delay (length earlier) 0 4294967295
  Ok (record { address = address; offset = offset; delay = delay })

-- the map holds the place of each address of the list, and nothing for any other address
abbrev pub ArePlaces : BTreeMap ℕ ℕ → List Transmitter → Type 0
ArePlaces places ts = (address : ℕ) → get nat_cmp places address ≡ transmitter_place address ts
