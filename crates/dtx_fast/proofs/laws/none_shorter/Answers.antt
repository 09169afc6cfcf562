use Rattle.std.proofs.Common.{ap, ◌∙◌, subst, arith, add-one}
use Rattle.dtx_fast.specs.Recurrence.{IsRecurrence, discrepancy}
use Rattle.dtx_fast.proofs.RecurrenceLemmas.{none_shorter}
use Rattle.dtx_fast.proofs.laws.none_shorter.Goals as goal

pub returns : goal.returns
returns c n l k s d b p m f q =
    omega (
      arith,
      none_shorter n l k s d b p m (λ e. f (ap (λ w. discrepancy w d s n) (add-one l) ∙ e))
          (subst (λ j. IsRecurrence j k s b) (add-one n) q),
    )
