-- What `refine` answers and writes of all bytes of a file, and of the first of too many.
use Rattle.std.proofs.Common.{◌≡◌, ◌↔◌, ℕ, ℤ, List, [], length, ap, arith}
use Rattle.std.proofs.lemmas.List.{length-map, nil_from_length}
use Rattle.dtx_receiver.specs.Bytes.{bytes_in}
use Rattle.dtx_acquire.specs.Acquired.{acquired, acquired_runs}
use Rattle.dtx_rounds.specs.Known.{known_count}
use Rattle.dtx_rounds.specs.Rounds.{heard_of, refined, round_cost, round_moved}
use Rattle.dtx_rounds.proofs.SoFarLemmas.{all_is_refined, length-refined}
use Rattle.dtx_meaning.specs.Status.{done}
use Rattle.dtx_recipes.specs.Refine.{before_last, refined_numbers, with_refiner}
use Rattle.dtx_recipes.specs.SymbolFile.{symbol_of_byte, symbols}
use Rattle.dtx_symbol_laws.specs.RestoredFile.{refined_of}
use Rattle.dtx_symbol_laws.proofs.RestoredFile.{IsRestored}

-- nothing is refined where nothing is acquired
none_refined : (scale rounds : ℕ) (symbols : List ℤ) → (acquired_runs symbols ≡ 0) ↔ (acquired scale symbols ≡ [])
    → (acquired_runs symbols ≡ 0) ↔ (refined scale symbols rounds ≡ [])
none_refined scale rounds symbols none =
    let same = length-refined scale rounds symbols in (
      λ e. nil_from_length (refined scale symbols rounds) (omega (arith, same, ap length (none.0 e))),
      λ e. none.1 (nil_from_length (acquired scale symbols) (omega (arith, same, ap length e))),
    )

-- the numbers are those of so many symbols
pub symbols_refined : (scale rounds n : ℕ) (symbols : List ℤ) → length symbols ≡ n
    → (acquired_runs symbols ≡ 0) ↔ (acquired scale symbols ≡ [])
    → IsRestored (with_refiner scale rounds) symbols (refined scale symbols rounds) (acquired_runs symbols)
    (done (refined_numbers n (acquired_runs symbols) (length (refined scale symbols rounds))
    (round_cost scale (heard_of symbols) (before_last scale rounds symbols))
    (known_count (bytes_in (before_last scale rounds symbols)))
    (round_moved scale (heard_of symbols) (before_last scale rounds symbols))))
symbols_refined scale rounds n symbols long none = grind (arith, all_is_refined, none_refined, length-refined)

-- of a file, these are its bytes
pub file_refines : (scale rounds : ℕ) (names : List (List ℕ)) (file : List ℕ)
    → (acquired_runs (symbols file) ≡ 0) ↔ (acquired scale (symbols file) ≡ [])
    → IsRestored (with_refiner scale rounds) (symbols file) (refined scale (symbols file) rounds)
    (acquired_runs (symbols file)) (refined_of scale rounds names file).outcome
file_refines scale rounds names file =
    symbols_refined scale rounds (length file) (symbols file) (length-map file symbol_of_byte)
