use Rattle.std.proofs.Common.{ℕ, ◌+◌, ◌<◌, [], pos, slice_index_or}
use Rattle.dtx_soft.specs.Least.{AllowsSteps}
use Rattle.dtx_soft.proofs.certificate.allow_all_steps.Given as goal

abbrev pub invariant-loop-t : goal.invariant-loop-t
invariant-loop-t l = (t : ℕ) → t < l.t
    → AllowsSteps (slice_index_or l.symbols t (pos 0)) (slice_index_or l.potentials t [])
    (slice_index_or l.potentials (t + 1) [])
