-- How often the calls of a shelf were refused, by cause, and which count a refusal raises.
use Rattle.std.specs.Prelude.{◌≡◌, ℕ, ◌-◌, ◌<◌, ◌≤◌, ◌^◌, Result, Ok, Err}
use Rattle.dtx_outside.specs.declared.shelf.ReadNo.{ReadNo}
use Rattle.dtx_outside.specs.declared.shelf.ReadNo.TheVariants as read_no
use Rattle.dtx_outside.specs.declared.shelf.WriteNo.{WriteNo}
use Rattle.dtx_outside.specs.declared.shelf.WriteNo.TheVariants as write_no

-- how often reading failed, how often writing failed, and how often a file to be read was absent
pub record Counts : Type 0 where
  pub read_faults : ℕ
  pub write_faults : ℕ
  pub misses : ℕ

-- the greatest value of a count, at which it stays
abbrev pub last_count : ℕ
last_count = 2 ^ 64 - 1

-- the count rose, or it stood at its greatest value before
abbrev pub Rose : ℕ → ℕ → Type 0
Rose before now = now < last_count → before < now

-- what an answer is blamed on, which says which count it has raised
pub data Blame : Type 0 where
  -- nothing: no refusal was met, or only lack of memory, for which the shelf has no count
  Nothing : Blame
  -- a file to be read was absent
  Missing : Blame
  -- reading failed
  Reading : Blame
  -- writing failed
  Writing : Blame

-- the count of this blame has risen; if nothing is blamed, no count has changed
abbrev pub HasRisen : Blame → Counts → Counts → Type 0
HasRisen Nothing before now = now ≡ before
HasRisen Missing before now = Rose before.misses now.misses
HasRisen Reading before now = Rose before.read_faults now.read_faults
HasRisen Writing before now = Rose before.write_faults now.write_faults

-- no count fell, and the count of this blame has risen
pub record HasGone (before now : Counts) (blame : Blame) : Type 0 where
  pub read_faults : before.read_faults ≤ now.read_faults
  pub write_faults : before.write_faults ≤ now.write_faults
  pub misses : before.misses ≤ now.misses
  pub risen : HasRisen blame before now

-- what the answer of a read is blamed on: out of memory raises no count
abbrev pub blame_of_read : {T : Type 0} → Result T ReadNo → Blame
blame_of_read (Ok x) = Nothing
blame_of_read (Err read_no.Absent) = Missing
blame_of_read (Err read_no.Failed) = Reading
blame_of_read (Err read_no.Memory) = Nothing

-- what the answer of a `begin` or an `append` is blamed on: out of memory raises no count
abbrev pub blame_of_write : Result (Unit {0}) WriteNo → Blame
blame_of_write (Ok _) = Nothing
blame_of_write (Err write_no.Failed) = Writing
blame_of_write (Err write_no.Memory) = Nothing
