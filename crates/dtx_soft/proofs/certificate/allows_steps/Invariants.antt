use Rattle.std.proofs.Common.{◌≡◌, ℕ, ◌+◌, ◌/◌, ◌%◌, ◌<◌, ◌≤◌, get_or}
use Rattle.dtx_soft.specs.Paths.{next_state, squared, symbol_at}
use Rattle.dtx_soft.proofs.certificate.allows_steps.Given as goal

abbrev pub invariant-loop-z : goal.invariant-loop-z
invariant-loop-z l = (state z : ℕ) → state < 4 → z < l.z → z % 2 ≡ state / 2
    → get_or l.entry state 0 ≤ squared l.fn.symbol (symbol_at 1 z) + get_or l.behind (next_state state z) 0
