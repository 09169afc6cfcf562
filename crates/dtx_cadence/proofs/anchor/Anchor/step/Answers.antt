use Rattle.std.proofs.Common.{rules}
use Rattle.dtx_cadence.proofs.anchor.Anchor.step.Goals as goal

pub returns-then-is_lost-clause-answer : goal.returns-then-is_lost-clause-answer
returns-then-is_lost-clause-answer c = search rules

pub returns-then-is_lost-clause-kept : goal.returns-then-is_lost-clause-kept
returns-then-is_lost-clause-kept c = search rules

pub returns-in-None-clause-kept : goal.returns-in-None-clause-kept
returns-in-None-clause-kept c = search rules
