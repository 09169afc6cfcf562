use Rattle.std.proofs.Common.{refl, arith}
use Rattle.dtx_laws.proofs.correcting.outcome.accept_codeword.Goals as goal

pub returns-then-changed-clause-answer : goal.returns-then-changed-clause-answer
returns-then-changed-clause-answer g c = record {
  correction = record { codeword = c.requires.codeword; near = omega arith };
  changed = c.distance-changed.ensures;
}

pub returns-else-changed-clause-answer : goal.returns-else-changed-clause-answer
returns-else-changed-clause-answer g c = record { none = λ h. omega (arith, h.near); same = refl }
