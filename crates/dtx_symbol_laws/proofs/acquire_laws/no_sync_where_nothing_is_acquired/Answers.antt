use Rattle.std.proofs.Common.{length, refl}
use Rattle.dtx_acquire.specs.Acquired.{acquired}
use Rattle.dtx_recipes.specs.Acquire.{with_acquirer}
use Rattle.dtx_symbol_laws.proofs.AcquiredFile.{symbols_acquired}
use Rattle.dtx_symbol_laws.proofs.RestoredFile.{no_sync}
use Rattle.dtx_symbol_laws.proofs.acquire_laws.no_sync_where_nothing_is_acquired.Goals as goal

pub returns : goal.returns
returns c = λ scale symbols.
    no_sync (with_acquirer scale) symbols (acquired scale symbols) _ _
    (symbols_acquired scale (length symbols) symbols refl (c.whole_fields_are_acquired.ensures.none scale symbols))
