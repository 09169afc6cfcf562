use Rattle.std.specs.BTreeMap.{values}
use Rattle.dtx_outside.proofs.Files.{AreAllBytes}
use Rattle.dtx_outside.proofs.held.known.Given as goal

abbrev pub invariant-loop-file : goal.invariant-loop-file
invariant-loop-file l = AreAllBytes l.file-iterator → AreAllBytes (values l.fn.held)
