-- Damage laid over the bytes of a file, and how many places it covers (the profile's own).
use Rattle.std.specs.Prelude.{◌≡◌, ℕ, ◌+◌, ◌<◌, ◌≤◌, Bool, ◌&&◌, nat_le, nat_lt, Option, is_some, List, length}
use Rattle.std.specs.Prelude.{slice_index, slice_index_or, map, count_by}
use Rattle.std.specs.List.{range_with_len, find, AllAdjacentBelow}
use Rattle.std.specs.Option.{option_map_or}
use Rattle.std.specs.Int.{w8, cast_unsigned}
use Rattle.dtx_plan.specs.declared.damage.Damage.{Damage}

-- each entry begins where the one before it ends, or later
abbrev pub AreInOrder : List Damage → Type 0
AreInOrder damage = AllAdjacentBelow (λ before after. before.at + before.count ≤ after.at) damage (length damage)

-- an entry covers the `count` places from `at` on
abbrev pub covers : ℕ → Damage → Bool
covers place entry = nat_le entry.at place && nat_lt place (entry.at + entry.count)

-- the first entry that covers a place
unfoldable pub entry_at : List Damage → ℕ → Option Damage
entry_at damage place = find (covers place) damage

-- the byte at a place after the damage: `put` of the entry that covers it, in two's complement, or else the old byte
abbrev pub byte_at : List Damage → ℕ → ℕ → ℕ
byte_at damage place byte = option_map_or (λ entry. cast_unsigned w8 entry.put) (entry_at damage place) byte

-- damage laid over bytes that stand at a place of a file
unfoldable pub damaged_bytes : List Damage → ℕ → List ℕ → List ℕ
damaged_bytes damage place bytes = map (λ i. byte_at damage (place + i) (slice_index bytes i)) (range_with_len 0
    (length bytes))

-- damage laid over a whole file
abbrev pub hurt : List Damage → List ℕ → List ℕ
hurt damage file = damaged_bytes damage 0 file

-- how many of the `count` places from a place on are covered by an entry
unfoldable pub damaged_from : List Damage → ℕ → ℕ → ℕ
damaged_from damage place count = count_by (λ k. is_some (entry_at damage k)) (range_with_len place count)

-- how many of the first `count` places of a file are covered by an entry
abbrev pub damaged_places : List Damage → ℕ → ℕ
damaged_places damage count = damaged_from damage 0 count

-- the entry covers exactly the places from `from` on and before `to`, of those from `place` on and before `end`
pub record IsCovered (entry : Damage) (place end from to : ℕ) : Type 0 where
  pub least : place ≤ from
  pub order : from ≤ to
  pub most : to ≤ end
  pub covered : (k : ℕ) → place ≤ k → k < end → covers k entry ≡ (nat_le from k && nat_lt k to)

-- the first place behind those that an entry covers
abbrev pub damage_end : Damage → ℕ
damage_end entry = entry.at + entry.count

-- Entry `first` is the first that ends behind a place. If none does, `first` is the number of entries.
pub record IsFirstBehind (damage : List Damage) (place first : ℕ) : Type 0 where
  pub within : first ≤ length damage
  pub before : (k : ℕ) (e : Damage) → k < first → damage_end (slice_index_or damage k e) ≤ place
  pub behind : (k : ℕ) (e : Damage) → first ≤ k → k < length damage → place < damage_end (slice_index_or damage k e)
