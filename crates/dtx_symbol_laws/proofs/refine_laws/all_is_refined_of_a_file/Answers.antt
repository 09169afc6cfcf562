use Rattle.dtx_rounds.specs.Rounds.{refined}
use Rattle.dtx_rounds.proofs.SoFarLemmas.{all_is_refined}
use Rattle.dtx_recipes.specs.Refine.{with_refiner}
use Rattle.dtx_recipes.proofs.RefineLemmas.{refines}
use Rattle.dtx_recipes.specs.SymbolFile.{symbols}
use Rattle.dtx_symbol_laws.specs.RestoredFile.{file_refined}
use Rattle.dtx_symbol_laws.proofs.RefinedFile.{file_refines}
use Rattle.dtx_symbol_laws.proofs.RestoredFile.{first_restored, none_restored, some_restored, until_restored}
use Rattle.dtx_symbol_laws.proofs.refine_laws.all_is_refined_of_a_file.Goals as goal

pub returns-clause-done : goal.returns-clause-done
returns-clause-done c = λ names scale rounds file.
    some_restored (with_refiner scale rounds) names file (file_refined scale rounds file) _ _
    (file_refines scale rounds names file (c.whole_fields_are_acquired.ensures.none scale (symbols file)))

pub returns-clause-no_sync : goal.returns-clause-no_sync
returns-clause-no_sync c = λ names scale rounds file.
    none_restored (with_refiner scale rounds) names file (file_refined scale rounds file) _ _
    (file_refines scale rounds names file (c.whole_fields_are_acquired.ensures.none scale (symbols file)))

pub returns-clause-too_long : goal.returns-clause-too_long
returns-clause-too_long c = λ names scale rounds file. until_restored (with_refiner scale rounds) names file

pub returns-clause-front : goal.returns-clause-front
returns-clause-front c = λ scale rounds symbols n.
    first_restored (with_refiner scale rounds) (refines scale rounds) symbols (refined scale symbols rounds) n
    (all_is_refined scale rounds symbols)
