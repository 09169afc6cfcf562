use Rattle.dtx_level.proofs.LevelledLemmas.{none_levelled}
use Rattle.dtx_jobs.proofs.LevelledFiles.{all_levelled, first_levelled}
use Rattle.dtx_jobs.proofs.laws.levelling.all_is_levelled_of_a_file.Goals as goal

pub returns : goal.returns
returns c = record { whole = all_levelled; too_long = first_levelled; no_sync = none_levelled }
