-- A kind of shelf of which a read error is foreseen.
use Rattle.std.specs.Prelude.{ℕ, Some, None, codes, bytes_eq, if◌then◌else◌}
use Rattle.dtx_outside.specs.Foreseen.{Foreseen}

-- Of the file `in.ts` the first n bytes can be read, and no byte behind them. Of other files nothing is foreseen.
abbrev pub halting_at : ℕ → Foreseen
halting_at n = record { readable = λ name. if bytes_eq name (codes "in.ts") then Some n else None }
