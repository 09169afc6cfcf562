use Rattle.dtx_jobs.proofs.MendLemmas.{same_file, same_words}
use Rattle.dtx_symbol_laws.proofs.laws.mending.nothing_to_mend.Goals as goal

pub returns : goal.returns
returns c = record { file = same_file; words = same_words }
