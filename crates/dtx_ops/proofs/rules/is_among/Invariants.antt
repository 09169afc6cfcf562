use Rattle.std.proofs.Common.{◌≡◌, drop}
use Rattle.dtx_ops.specs.Reading.{is_among}
use Rattle.dtx_ops.proofs.rules.is_among.Given as goal

abbrev pub invariant-loop-entry : goal.invariant-loop-entry
invariant-loop-entry l = is_among l.address (drop l.entry-index l.entries) ≡ is_among l.address l.entries
