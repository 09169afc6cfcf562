use Rattle.std.proofs.Common.{length, refl}
use Rattle.dtx_rounds.specs.Rounds.{refined}
use Rattle.dtx_recipes.specs.Refine.{with_refiner}
use Rattle.dtx_symbol_laws.proofs.RefinedFile.{symbols_refined}
use Rattle.dtx_symbol_laws.proofs.RestoredFile.{no_sync}
use Rattle.dtx_symbol_laws.proofs.refine_laws.no_sync_where_nothing_is_refined.Goals as goal

pub returns : goal.returns
returns c = λ scale rounds symbols.
    no_sync (with_refiner scale rounds) symbols (refined scale symbols rounds) _ _
    (symbols_refined scale rounds (length symbols) symbols refl
    (c.whole_fields_are_acquired.ensures.none scale symbols))
