-- What `acquire` answers and writes of all bytes of a file, and of the first of too many.
use Rattle.std.proofs.Common.{◌≡◌, ◌↔◌, ℕ, ℤ, List, [], length, arith}
use Rattle.std.proofs.lemmas.List.{length-map}
use Rattle.dtx_acquire.specs.Acquired.{acquired, acquired_cost, acquired_runs}
use Rattle.dtx_acquire.proofs.AcquiredLemmas.{all_is_acquired}
use Rattle.dtx_meaning.specs.Status.{done}
use Rattle.dtx_recipes.specs.Acquire.{acquired_numbers, with_acquirer}
use Rattle.dtx_recipes.specs.SymbolFile.{symbol_of_byte, symbols}
use Rattle.dtx_symbol_laws.specs.RestoredFile.{acquired_of}
use Rattle.dtx_symbol_laws.proofs.RestoredFile.{IsRestored}

-- the numbers are those of so many symbols
pub symbols_acquired : (scale n : ℕ) (symbols : List ℤ) → length symbols ≡ n
    → (acquired_runs symbols ≡ 0) ↔ (acquired scale symbols ≡ [])
    → IsRestored (with_acquirer scale) symbols (acquired scale symbols) (acquired_runs symbols)
    (done (acquired_numbers n (acquired_runs symbols) (length (acquired scale symbols)) (acquired_cost scale symbols)))
symbols_acquired scale n symbols long none = grind (arith, all_is_acquired)

-- of a file, these are its bytes
pub file_acquires : (scale : ℕ) (names : List (List ℕ)) (file : List ℕ)
    → (acquired_runs (symbols file) ≡ 0) ↔ (acquired scale (symbols file) ≡ [])
    → IsRestored (with_acquirer scale) (symbols file) (acquired scale (symbols file)) (acquired_runs (symbols file))
    (acquired_of scale names file).outcome
file_acquires scale names file = symbols_acquired scale (length file) (symbols file) (length-map file symbol_of_byte)
