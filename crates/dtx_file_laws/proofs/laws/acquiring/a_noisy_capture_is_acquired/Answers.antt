use Rattle.std.proofs.Common.{refl}
use Rattle.dtx_recipes.specs.Acquire.{with_acquirer}
use Rattle.dtx_recipes.specs.SymbolFile.{symbols}
use Rattle.dtx_symbol_laws.specs.RestoredFile.{acquired_of, file_acquired}
use Rattle.dtx_file_laws.proofs.Captured.{are_near, few_symbols, restored_as}
use Rattle.dtx_file_laws.proofs.laws.acquiring.a_noisy_capture_is_acquired.Goals as goal

pub returns : goal.returns
returns c = λ names packets scale file positive some few noisy.
    restored_as (with_acquirer scale) names packets file (file_acquired scale file)
    (acquired_of scale names file).outcome refl some
    (c.a_stream_is_acquired.ensures scale packets (symbols file) positive (are_near scale packets file noisy))
    (c.all_is_acquired_of_a_file.ensures.done names scale file (few_symbols packets file few noisy.as_many))
