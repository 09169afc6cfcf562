use Rattle.dtx_calm_feed.proofs.Told.{right_held}
use Rattle.dtx_calm_feed.proofs.laws.right_states_are_held.Goals as goal

pub returns : goal.returns
returns c = right_held
