use Rattle.dtx_jobs.proofs.WatchedFeed.{watched_calmly}
use Rattle.dtx_jobs.proofs.laws.watching.sound_feeds_are_watched_calmly.Goals as goal

pub returns : goal.returns
returns c = watched_calmly
