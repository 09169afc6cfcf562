use Rattle.std.proofs.Common.{refl, ◌∙◌}
use Rattle.dtx_coder.proofs.NextLemmas.{new_stands}
use Rattle.dtx_jobs.proofs.stream_coder.StreamCoderStepping.new.Goals as goal

pub returns-clause-given : goal.returns-clause-given
returns-clause-given c = record { coder = c.in_ok-new-2.ensures.ok ∙ c.in_ok-new.ensures ∙ new_stands; packets = refl }
