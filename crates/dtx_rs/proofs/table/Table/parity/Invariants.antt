use Rattle.std.proofs.Common.{◌≡◌, ◌+◌, ◌*◌, ◌∷◌, take, replicate}
use Rattle.dtx_laws.specs.Register.{register}
use Rattle.dtx_rs.specs.Generator.{word_bytes}
use Rattle.dtx_rs.proofs.table.Table.parity.Given as goal

abbrev pub invariant-loop-step : goal.invariant-loop-step
invariant-loop-step l =
    word_bytes (l.state.first ∷ l.state.rest)
    ≡ register l.fn.self.divisor (replicate 20 0) (take (l.first + 4 * l.step) l.fn.head)
