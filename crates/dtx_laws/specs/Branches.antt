-- The branches of an interleaver or a de-interleaver: the next branch, and the bytes that each branch holds. Both
-- directions share these definitions. In these b is the number of branches, and branch i holds w i bytes.
use Rattle.std.specs.Prelude.{ℕ, ◌≡◌, ◌+◌, ◌-◌, ◌*◌, ◌<◌, ◌≤◌, ◌==◌, if◌then◌else◌, List, [], ◌∷◌, ◌++◌, length, map}
use Rattle.std.specs.Prelude.{drop, replicate, slice_index, slice_index_or, slice_set}
use Rattle.std.specs.List.{range_with_len}

-- The numbers of an interleaver: 2 to 64 branches, each 1 to 32 bytes longer than the one before it.
pub record IsInterleaver (b m : ℕ) : Type 0 where
  pub some : 2 ≤ b
  pub few : b ≤ 64
  pub longer : 1 ≤ m
  pub short : m ≤ 32

-- the branch to which the next byte comes, and what each branch holds, oldest byte first
pub record Branching : Type 0 where
  pub next : ℕ
  pub lists : List (List ℕ)

-- the widths of an interleaver's branches (ATSC A/53 Part 2, interleaving)
abbrev pub spreading : ℕ → ℕ → ℕ
spreading m i = m * i

-- The widths of a de-interleaver's b branches. In both together a byte waits for m * (b - 1) bytes of its branch.
abbrev pub gathering : ℕ → ℕ → ℕ → ℕ
gathering b m i = m * (b - 1 - i)

-- the next branch is one of the b branches, and branch i holds w i bytes
pub record HasWidths (b : ℕ) (w : ℕ → ℕ) (v : Branching) : Type 0 where
  pub next : v.next < b
  pub count : length v.lists ≡ b
  pub long : (i : ℕ) → i < b → length (slice_index_or v.lists i []) ≡ w i

-- branches that are aligned, with zeros in each
unfoldable pub zeroed : ℕ → (ℕ → ℕ) → Branching
zeroed b w = record { next = 0; lists = map (λ i. replicate (w i) 0) (range_with_len 0 b) }

-- the next byte goes to branch 0, and each branch keeps what it holds
abbrev pub aligned : Branching → Branching
aligned v = record { next = 0; lists = v.lists }

-- the next branch's bytes with one more byte at their end
abbrev pub joined : Branching → ℕ → List ℕ
joined v byte = slice_index_or v.lists v.next [] ++ byte ∷ []

-- the byte that leaves: the first of these
abbrev pub leaving : Branching → ℕ → ℕ
leaving v byte = slice_index (joined v byte) 0

-- The branches after one byte. The next branch keeps its other bytes, and the turn goes to the branch behind it, or
-- from the last one to branch 0.
abbrev pub after_byte : ℕ → Branching → ℕ → Branching
after_byte b v byte = record {
  next = if v.next + 1 == b then 0 else v.next + 1;
  lists = slice_set v.lists v.next (drop 1 (joined v byte));
}

-- what leaves while these bytes come, one for one
unfoldable pub leaving_all : ℕ → Branching → List ℕ → List ℕ
leaving_all b v [] = []
leaving_all b v (x ∷ xs) = leaving v x ∷ leaving_all b (after_byte b v x) xs

-- the branches after these bytes
unfoldable pub after_all : ℕ → Branching → List ℕ → Branching
after_all b v [] = v
after_all b v (x ∷ xs) = after_all b (after_byte b v x) xs

-- what leaves in calls that follow each other
unfoldable pub leaving_calls : ℕ → Branching → List (List ℕ) → List ℕ
leaving_calls b v [] = []
leaving_calls b v (x ∷ xs) = leaving_all b v x ++ leaving_calls b (after_all b v x) xs

-- the branches after these calls
unfoldable pub after_calls : ℕ → Branching → List (List ℕ) → Branching
after_calls b v [] = v
after_calls b v (x ∷ xs) = after_calls b (after_all b v x) xs
