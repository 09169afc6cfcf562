-- A packet as it was read, and what is counted of it.
use Rattle.std.specs.Prelude.{ℕ, List}
use Rattle.std.specs.List.{sum_by}
use Rattle.dtx_outer.specs.declared.inner.Taken.{Taken}
use Rattle.dtx_outer.specs.declared.inner.Taken.TheVariants.{None, Good, Bad}

-- the packet's bytes, and how its word was taken
pub record Read : Type 0 where
  pub taken : Taken
  pub packet : List ℕ

-- how many bytes of a word were put right
abbrev pub fixed_of : Taken → ℕ
fixed_of None = 0
fixed_of (Good fixed) = fixed
fixed_of Bad = 0

-- 1 where a packet is flagged: its word has no correction
abbrev pub flag_of : Taken → ℕ
flag_of None = 0
flag_of (Good fixed) = 0
flag_of Bad = 1

-- how many bytes were put right in all
unfoldable pub fixed_in : List Read → ℕ
fixed_in reads = sum_by (λ r. fixed_of r.taken) reads

-- how many packets are flagged
unfoldable pub flagged_in : List Read → ℕ
flagged_in reads = sum_by (λ r. flag_of r.taken) reads
