use Rattle.std.proofs.Common.{◌≡◌, ◌*◌, ◌≤◌}
use Rattle.dtx_level.specs.Measures.{noise}
use Rattle.dtx_level.proofs.pattern.Pattern.noise.Given as goal

abbrev pub invariant-loop-i : goal.invariant-loop-i
invariant-loop-i l = record {
  few : l.i ≤ 515;
  sum : l.sum ≡ noise l.segment l.i;
  small : l.sum ≤ 1327104 * l.i;
}
