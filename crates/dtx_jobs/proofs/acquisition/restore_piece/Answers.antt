use Rattle.std.proofs.Common.{ℤ, List, subst}
use Rattle.dtx_jobs.specs.Restorer.{WereRestored}
use Rattle.dtx_jobs.proofs.acquisition.restore_piece.Goals as goal

pub returns-clause-restored : goal.returns-clause-restored
returns-clause-restored g c =
    subst (λ (xs : List ℤ). WereRestored (g.R.Restorer.restoring c.args.restorer.now)
    (g.R.Restorer.stands c.args.restorer.now) (g.R.Restorer.stands c.restore_all.new.restorer) xs
    c.restore_all.new.gathered) c.to_symbols.ensures c.restore_all.ensures.restored
