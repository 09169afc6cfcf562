use Rattle.std.proofs.Common.{◌/◌, ◌%◌, get_or, ◌∙◌}
use Rattle.dtx_slice.proofs.PlacesLemmas.{lane_joined}
use Rattle.dtx_slice.proofs.walk.four_rounds.Goals as goal

pub returns-clause-bytes : goal.returns-clause-bytes
returns-clause-bytes c = λ p l.
    c.joined.ensures.bytes p l
    ∙ lane_joined c.args.byte p (get_or c.args.before p 0 / 4 % 2) _ _ _ _ c.args.levels.now
    (c.load_round.ensures.levels p l) (c.load_round-2.ensures.levels p l) (c.load_round-3.ensures.levels p l)
    (c.load_round-4.ensures.levels p l)
