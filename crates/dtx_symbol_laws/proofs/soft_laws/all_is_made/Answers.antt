use Rattle.dtx_jobs.proofs.SoftLemmas.{all_is}
use Rattle.dtx_symbol_laws.proofs.soft_laws.all_is_made.Goals as goal

pub returns : goal.returns
returns c = all_is
