use Rattle.dtx_jobs.proofs.GivenLemmas.{done_received, first_given, nothing_received}
use Rattle.dtx_jobs.proofs.GivingLemmas.{front_given}
use Rattle.dtx_recipes.specs.Mend.{with_mendings}
use Rattle.dtx_recipes.proofs.MendLemmas.{mendings_given}
use Rattle.dtx_symbol_laws.proofs.MendedBackLemmas.{as_long_so_far}
use Rattle.dtx_symbol_laws.proofs.laws.mending.mending_answers.Goals as goal

pub returns : goal.returns
returns c = record {
  too_long = first_given with_mendings;
  front = front_given with_mendings mendings_given;
  long = as_long_so_far;
  no_sync = nothing_received with_mendings mendings_given;
  done = done_received with_mendings mendings_given;
}
