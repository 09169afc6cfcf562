use Rattle.dtx_acquire.specs.Acquired.{acquired}
use Rattle.dtx_acquire.proofs.AcquiredLemmas.{all_is_acquired}
use Rattle.dtx_recipes.specs.Acquire.{with_acquirer}
use Rattle.dtx_recipes.proofs.AcquireLemmas.{acquires}
use Rattle.dtx_recipes.specs.SymbolFile.{symbols}
use Rattle.dtx_symbol_laws.specs.RestoredFile.{file_acquired}
use Rattle.dtx_symbol_laws.proofs.AcquiredFile.{file_acquires}
use Rattle.dtx_symbol_laws.proofs.RestoredFile.{first_restored, none_restored, some_restored, until_restored}
use Rattle.dtx_symbol_laws.proofs.acquire_laws.all_is_acquired_of_a_file.Goals as goal

pub returns-clause-done : goal.returns-clause-done
returns-clause-done c = λ names scale file.
    some_restored (with_acquirer scale) names file (file_acquired scale file) _ _
    (file_acquires scale names file (c.whole_fields_are_acquired.ensures.none scale (symbols file)))

pub returns-clause-no_sync : goal.returns-clause-no_sync
returns-clause-no_sync c = λ names scale file.
    none_restored (with_acquirer scale) names file (file_acquired scale file) _ _
    (file_acquires scale names file (c.whole_fields_are_acquired.ensures.none scale (symbols file)))

pub returns-clause-too_long : goal.returns-clause-too_long
returns-clause-too_long c = λ names scale file. until_restored (with_acquirer scale) names file

pub returns-clause-front : goal.returns-clause-front
returns-clause-front c = λ scale symbols n.
    first_restored (with_acquirer scale) (acquires scale) symbols (acquired scale symbols) n
    (all_is_acquired scale symbols)
