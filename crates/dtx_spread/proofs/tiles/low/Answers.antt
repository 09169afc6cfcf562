use Rattle.std.proofs.Common.{[], ◌∷◌, ◌==◌, ◌%◌, cond, get_or, refl, ap, ◌∙◌, arith}
use Rattle.dtx_spread.proofs.Shuffling.{picked, low_lanes}
use Rattle.dtx_spread.proofs.tiles.low.Goals as goal

pub returns-clause-low : goal.returns-clause-low
returns-clause-low c = λ j l.
    picked 0 c.args.a c.args.b
    (0 ∷ 16 ∷ 1 ∷ 17 ∷ 2 ∷ 18 ∷ 3 ∷ 19 ∷ 4 ∷ 20 ∷ 5 ∷ 21 ∷ 6 ∷ 22 ∷ 7 ∷ 23 ∷ []) c.requires refl (omega arith)
    low_lanes j l ∙ ap (λ n. get_or (cond (j % 2 == 0) c.args.a c.args.b) n 0) (omega arith)
