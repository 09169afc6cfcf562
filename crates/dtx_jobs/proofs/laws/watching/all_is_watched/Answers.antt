use Rattle.dtx_jobs.proofs.WatchedText.{all_watched, tally_told}
use Rattle.dtx_jobs.proofs.laws.watching.all_is_watched.Goals as goal

pub returns : goal.returns
returns c = record { written = all_watched; numbers = tally_told }
