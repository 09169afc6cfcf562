use Rattle.std.proofs.Common.{refl}
use Rattle.dtx_recipes.specs.Refine.{with_refiner}
use Rattle.dtx_recipes.specs.SymbolFile.{symbols}
use Rattle.dtx_symbol_laws.specs.RestoredFile.{file_refined, refined_of}
use Rattle.dtx_file_laws.proofs.Captured.{are_near, few_symbols, restored_as}
use Rattle.dtx_file_laws.proofs.laws.acquiring.a_noisy_capture_is_refined.Goals as goal

pub returns : goal.returns
returns c = λ names packets scale rounds file positive most whole some few noisy.
    restored_as (with_refiner scale rounds) names packets file (file_refined scale rounds file)
    (refined_of scale rounds names file).outcome refl some
    (c.a_stream_is_refined.ensures scale rounds packets (symbols file) positive most whole
    (are_near scale packets file noisy))
    (c.all_is_refined_of_a_file.ensures.done names scale rounds file (few_symbols packets file few noisy.as_many))
