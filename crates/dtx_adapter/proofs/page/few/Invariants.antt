use Rattle.std.proofs.Common.{◌≡◌, take}
use Rattle.dtx_adapter.proofs.page.few.Given as goal

abbrev pub invariant-loop-entry : goal.invariant-loop-entry
invariant-loop-entry l = l.kept.items ≡ take l.entry-index l.entries
