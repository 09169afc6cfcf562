-- What is certain of a kind of shelf before any call, and what a read can answer then.
use Rattle.std.specs.Prelude.{ℕ, ◌+◌, ◌<◌, ◌≤◌, List, Option, Some, None, Result, Ok, Err}
use Rattle.dtx_outside.specs.declared.filling.ReadExtent.{ReadExtent}
use Rattle.dtx_outside.specs.declared.shelf.ReadNo.{ReadNo}
use Rattle.dtx_outside.specs.declared.shelf.ReadNo.TheVariants.{Absent, Failed, Memory}

-- What is certain of the calls of a kind of shelf before any is made. It may be nothing.
pub record Foreseen : Type 0 where
  -- how many bytes at the front of the file of that name can be read while no byte behind them can, where it is certain
  pub readable : List ℕ → Option ℕ

-- nothing is foreseen
abbrev pub nothing_foreseen : Foreseen
nothing_foreseen = record { readable = λ name. None }

-- What a read of `wanted` bytes from offset `place` on can answer, where the readable bytes are foreseen. It gives
-- bytes among the readable ones. Or reading fails, if one of the wanted bytes isn't readable.
abbrev pub IsForeseenRead : Option ℕ → ℕ → ℕ → Result ℕ ReadNo → Type 0
IsForeseenRead None place wanted result = Unit {0}
IsForeseenRead (Some n) place wanted (Ok count) = (place < n) × (place + count ≤ n)
IsForeseenRead (Some n) place wanted (Err Absent) = Unit {0}
IsForeseenRead (Some n) place wanted (Err Failed) = n < place + wanted
IsForeseenRead (Some n) place wanted (Err Memory) = Unit {0}

-- the same of reads that fill a buffer of `wanted` bytes
abbrev pub IsForeseenFill : Option ℕ → ℕ → ℕ → Result ReadExtent ReadNo → Type 0
IsForeseenFill readable place wanted (Ok filled) = IsForeseenRead readable place wanted (Ok filled.count)
IsForeseenFill readable place wanted (Err cause) = IsForeseenRead readable place wanted (Err cause)
