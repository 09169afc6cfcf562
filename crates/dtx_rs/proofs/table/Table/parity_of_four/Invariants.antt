use Rattle.std.proofs.Common.{◌≡◌, ℕ, ◌+◌, ◌*◌, ◌∷◌, List, take, replicate}
use Rattle.dtx_laws.specs.Register.{register}
use Rattle.dtx_rs.specs.Generator.{word_bytes}
use Rattle.dtx_rs.proofs.table.Table.parity_of_four.Given as goal

-- the register of the first bytes of some data
abbrev IsBehind : List ℕ → ℕ → List ℕ → ℕ → List ℕ → Type 0
IsBehind divisor at head first rest = word_bytes (first ∷ rest) ≡ register divisor (replicate 20 0) (take at head)

abbrev pub invariant-loop-step : goal.invariant-loop-step
invariant-loop-step l = record {
  one : IsBehind l.fn.self.divisor (l.first + 4 * l.step) l.fn.one l.of_one.first l.of_one.rest;
  two : IsBehind l.fn.self.divisor (l.first + 4 * l.step) l.fn.two l.of_two.first l.of_two.rest;
  three : IsBehind l.fn.self.divisor (l.first + 4 * l.step) l.fn.three l.of_three.first l.of_three.rest;
  four : IsBehind l.fn.self.divisor (l.first + 4 * l.step) l.fn.four l.of_four.first l.of_four.rest;
}
