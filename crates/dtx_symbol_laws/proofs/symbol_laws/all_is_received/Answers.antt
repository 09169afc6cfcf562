use Rattle.dtx_jobs.proofs.GivenLemmas.{first_given}
use Rattle.dtx_recipes.specs.Receive.{with_corrections}
use Rattle.dtx_jobs.proofs.ReceivedLemmas.{all_damaged_received, all_received}
use Rattle.dtx_symbol_laws.proofs.symbol_laws.all_is_received.Goals as goal

pub returns : goal.returns
returns c = record { plain = all_received; damaged = all_damaged_received; too_long = first_given with_corrections }
