use Rattle.dtx_calm_feed.proofs.Soundly.{sound_is_calm}
use Rattle.dtx_calm_feed.proofs.laws.sound_feeds_are_calm_feeds.Goals as goal

pub returns : goal.returns
returns c = sound_is_calm
