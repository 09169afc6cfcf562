use Rattle.std.proofs.Common.{pos}
use Rattle.std.proofs.lemmas.List.{get_or-replicate}
use Rattle.dtx_pins.proofs.ToldLanes.{same_lane}
use Rattle.dtx_pins.proofs.told.beginning.Goals as goal

pub returns : goal.returns
returns c e l =
    same_lane _ _ (get_or-replicate 16 e 0 0 l) (get_or-replicate 16 e 0 0 l) (get_or-replicate 16 e 0 0 l)
    (c.alike.ensures e (pos 0) l)
