use Rattle.std.proofs.Common.{[], ◌∷◌, refl, arith}
use Rattle.dtx_spread.proofs.Shuffling.{picked, high_lanes}
use Rattle.dtx_spread.proofs.tiles.high.Goals as goal

pub returns-clause-high : goal.returns-clause-high
returns-clause-high c = λ j l.
    picked 8 c.args.a c.args.b
    (8 ∷ 24 ∷ 9 ∷ 25 ∷ 10 ∷ 26 ∷ 11 ∷ 27 ∷ 12 ∷ 28 ∷ 13 ∷ 29 ∷ 14 ∷ 30 ∷ 15 ∷ 31 ∷ []) c.requires refl (omega arith)
    high_lanes j l
