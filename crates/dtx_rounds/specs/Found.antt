-- The words that a round puts right of those that begin in one field (ATSC A/53 Part 2, Reed-Solomon encoder and
-- interleaver). Words and places are counted from the field's beginning, where branch 0 stands. A field has 312 words
-- and 64584 bytes. Its words reach into the field behind it.
use Rattle.std.specs.Prelude.{ℕ, ◌≡◌, ◌+◌, ◌-◌, ◌*◌, ◌/◌, ◌%◌, ◌<◌, ◌==◌, ◌++◌, ◌&&◌, ◌||◌, nat_le, not, Bool, false}
use Rattle.std.specs.Prelude.{true, if◌then◌else◌, Option, Some, None, is_some, option_map, List, length, take}
use Rattle.std.specs.Prelude.{slice_index, slice_index_or}
use Rattle.std.specs.List.{flat_map, list_any, range_with_len}
use Rattle.dtx_receiver.specs.Packets.{is_complete}
use Rattle.dtx_rounds.specs.Known.{known_word}
use Rattle.dtx_rounds.specs.declared.field.Field.{Field}

-- how many data segments a field with so many segments has in whole groups: its first segment is its sync
abbrev pub whole_segments : ℕ → ℕ
whole_segments count = (count - 1) / 4 * 4

-- the bytes of its groups, one behind the other
abbrev pub bytes_of : Field → List ℕ
bytes_of field = flat_map (λ group. group) field.bytes.items

-- Those bytes of a field and of the one behind it that are there: 207 of each data segment in a whole group. The field
-- behind has a segment only where this one has all of its own.
unfoldable pub bytes_there : Field → Field → List ℕ
bytes_there field next =
    take (207 * (whole_segments field.count + whole_segments next.count)) (bytes_of field ++ bytes_of next)

-- ---- corrections

-- The correction of word k of these bytes, where the word isn't known yet. Behind the words of the field none is
-- sought.
unfoldable pub new_code : List ℕ → List Bool → ℕ → Option (List ℕ)
new_code bytes words k = if slice_index_or words k true then None else known_word bytes k

-- word k alone, with what may be its correction
unfoldable pub only_code : ℕ → Option (List ℕ) → ℕ → Option (List ℕ)
only_code k code i = if i == k then code else None

-- The byte at place n of these corrections. The interleaver puts byte n - 208 * (n mod 52) of the words there.
unfoldable pub code_byte : (ℕ → Option (List ℕ)) → ℕ → Option ℕ
code_byte codes n =
    if nat_le (208 * (n % 52)) n
    then option_map (λ code. slice_index code ((n - 208 * (n % 52)) % 207)) (codes ((n - 208 * (n % 52)) / 207))
    else None

-- ---- what is known with them

-- the first value, or where there is none the second one
abbrev pub or_else : {A : Type 0} → Option A → Option A → Option A
or_else None y = y
or_else (Some x) y = Some x

-- whether there is such a correction
unfoldable pub has_code : (ℕ → Option (List ℕ)) → ℕ → Bool
has_code codes count = list_any (λ k. is_some (codes k)) (range_with_len 0 count)

-- whether there is one of a word that ends in the next field
unfoldable pub has_code_behind : (ℕ → Option (List ℕ)) → ℕ → Bool
has_code_behind codes count =
    list_any (λ k. is_some (codes k) && not (is_complete (207 * 312) k)) (range_with_len 0 count)

-- all of a field but what is known is as before
pub record IsKept (field new : Field) : Type 0 where
  pub count : new.count ≡ field.count
  pub heard : new.heard ≡ field.heard
  pub decided : new.decided ≡ field.decided
  pub bytes : new.bytes ≡ field.bytes
  pub cost : new.cost ≡ field.cost
  pub moved : new.moved ≡ field.moved

-- all that a round reads of a field is as before, but for its bytes
pub record IsUnchanged (field new : Field) : Type 0 where
  pub count : new.count ≡ field.count
  pub heard : new.heard ≡ field.heard
  pub decided : new.decided ≡ field.decided
  pub known : new.known ≡ field.known
  pub words : new.words ≡ field.words
  pub cost : new.cost ≡ field.cost
  pub moved : new.moved ≡ field.moved
  pub knows_more : new.knows_more ≡ field.knows_more

-- A field and the one behind it, `new` and `new_next`, are as before but for what is known with these corrections: the
-- bytes of both, one behind the other, and the words of the first.
pub record AreFound (codes : ℕ → Option (List ℕ)) (field next new new_next : Field) : Type 0 where
  pub known : (n : ℕ) → slice_index_or (new.known.items ++ new_next.known.items) n None
      ≡ or_else (code_byte codes n) (slice_index_or (field.known.items ++ next.known.items) n None)
  pub long : length new.words ≡ length field.words
  pub words : (k : ℕ) → k < length field.words
      → slice_index_or new.words k false ≡ (slice_index_or field.words k false || is_some (codes k))
  pub more : new.knows_more ≡ (field.knows_more || has_code codes 312)
  pub rest : IsKept field new
  pub next_words : new_next.words ≡ next.words
  pub next_more : new_next.knows_more ≡ (next.knows_more || has_code_behind codes 312)
  pub next_rest : IsKept next new_next
