use Rattle.std.proofs.Common.{◌≡◌, ◌==◌, drop, find}
use Rattle.dtx_exciter.proofs.pages.entry_of.Given as goal

abbrev pub invariant-loop-entry : goal.invariant-loop-entry
invariant-loop-entry l = find (λ e. e.address == l.address) (drop l.entry-index l.entry-items)
    ≡ find (λ e. e.address == l.address) l.ops.offsets.items
