use Rattle.std.proofs.Common.{ℤ, List, subst}
use Rattle.dtx_jobs.specs.Levelling.{WereLevelled}
use Rattle.dtx_jobs.proofs.levelling.level_piece.Goals as goal

pub returns-clause-levelled : goal.returns-clause-levelled
returns-clause-levelled c =
    subst (λ (xs : List ℤ). WereLevelled c.args.leveller.now c.level_all.new.leveller xs c.level_all.new.brought)
    c.to_symbols.ensures c.level_all.ensures
