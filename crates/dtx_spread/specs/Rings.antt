-- Branches as lists to which bytes come in rows. A row has one byte for each of the b branches. The place of a byte is
-- its place in its row.
use Rattle.std.specs.Prelude.{ℕ, ◌≡◌, ◌+◌, ◌-◌, ◌*◌, ◌/◌, ◌%◌, ◌<◌, ◌≤◌, ◌⊎◌, nat_lt, if◌then◌else◌, List, [], ◌++◌}
use Rattle.std.specs.Prelude.{length, map, take, drop, slice_index, slice_index_or}
use Rattle.std.specs.List.{range_with_len}
use Rattle.circular_buffer.specs.Buffer.{Buffer}
use Rattle.dtx_laws.specs.Branches.{Branching}

-- what the rings hold, oldest byte first
abbrev pub lists_of : List (Buffer ℕ) → List (List ℕ)
lists_of rings = map (λ r. r.items) rings

-- the branches that rings are
abbrev pub branches_of : ℕ → List (Buffer ℕ) → Branching
branches_of next rings = record { next = next; lists = lists_of rings }

-- the branch to which the byte at place p comes, if the byte at place 0 comes to branch `next`
abbrev pub branch_at : ℕ → ℕ → ℕ → ℕ
branch_at b next p = if nat_lt (next + p) b then next + p else next + p - b

-- how many bytes come to place p, if one of each of `whole` rows does, and one more to each of the first `rest` places
abbrev pub count_of : ℕ → ℕ → ℕ → ℕ
count_of whole rest p = whole + (if nat_lt p rest then 1 else 0)

-- how many of `len` bytes come to place p
abbrev pub count_at : ℕ → ℕ → ℕ → ℕ
count_at b len p = count_of (len / b) (len % b) p

-- the bytes that come to place p
abbrev pub column : ℕ → List ℕ → ℕ → List ℕ
column b bytes p = map (λ k. slice_index bytes (p + k * b)) (range_with_len 0 (count_at b (length bytes) p))

-- what a branch holds, followed by the bytes that come to it at place p
abbrev pub joined_at : ℕ → ℕ → List (List ℕ) → List ℕ → ℕ → List ℕ
joined_at b next lists bytes p = slice_index_or lists (branch_at b next p) [] ++ column b bytes p

-- equally many of `len` bytes come to each of the w places from p on
abbrev pub IsEven : ℕ → ℕ → ℕ → ℕ → Type 0
IsEven b p w len = (p + w ≤ len % b) ⊎ (len % b ≤ p)

-- Columns stand s bytes apart. The branches of the places from `from` up to `to`, without it, have each taken as many
-- bytes from their columns as come to the place. As many of their oldest bytes have gone. All other branches are as
-- before.
pub record AreExchanged (b next from to s whole rest : ℕ) (old new : List (List ℕ)) (come gone : List ℕ) : Type 0 where
  pub count : length new ≡ length old
  pub kept : (p : ℕ) → from ≤ p → p < to → slice_index_or new (branch_at b next p) []
      ≡ drop (count_of whole rest p) (slice_index_or old (branch_at b next p) []
      ++ take (count_of whole rest p) (drop ((p - from) * s) come))
  pub others : (p : ℕ) → (p < from) ⊎ (to ≤ p) → p < b
      → slice_index_or new (branch_at b next p) [] ≡ slice_index_or old (branch_at b next p) []
  pub left : (p k : ℕ) → from ≤ p → p < to → k < count_of whole rest p → slice_index gone ((p - from) * s + k)
      ≡ slice_index (slice_index_or old (branch_at b next p) []
      ++ take (count_of whole rest p) (drop ((p - from) * s) come)) k

-- The bytes at the places from `from` up to `to`, without it, have gone through. As many leave each branch as have come
-- to it, and they stand where those stood. All other branches and bytes are as before.
pub record ArePassed (b next from to : ℕ) (old new : List (List ℕ)) (bytes out : List ℕ) : Type 0 where
  pub count : length new ≡ length old
  pub long : length out ≡ length bytes
  pub kept : (p : ℕ) → from ≤ p → p < to
      → slice_index_or new (branch_at b next p) [] ≡ drop (count_at b (length bytes) p) (joined_at b next old bytes p)
  pub others : (p : ℕ) → (p < from) ⊎ (to ≤ p) → p < b
      → slice_index_or new (branch_at b next p) [] ≡ slice_index_or old (branch_at b next p) []
  pub left : (i : ℕ) → i < length bytes → from ≤ i % b → i % b < to
      → slice_index out i ≡ slice_index (joined_at b next old bytes (i % b)) (i / b)
  pub rest : (i : ℕ) → (i % b < from) ⊎ (to ≤ i % b) → slice_index out i ≡ slice_index bytes i
