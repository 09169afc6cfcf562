use Rattle.dtx_network.proofs.Turns.{in_turn_listed}
use Rattle.dtx_network.proofs.laws.listing_in_turn.Goals as goal

pub returns : goal.returns
returns c = in_turn_listed
