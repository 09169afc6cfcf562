-- Laws of what restored segments make of a file.
use Rattle.std.proofs.Common.{◌≡◌, ℕ, List, [], ◌++◌, refl, sym, ap, arith}
use Rattle.std.proofs.lemmas.List.{map-append}
use Rattle.dtx_engine.specs.Made.{AreFrontsOf, only}
use Rattle.dtx_files.proofs.AppendedLemmas.{segment_bytes-append}
use Rattle.dtx_files.specs.Symbols.{segment_bytes}
use Rattle.dtx_recipes.specs.Restoring.{IsRestoring, Restoring, restoring_by}
use Rattle.dtx_recipes.specs.SymbolFile.{symbols}

pub restores_none : (restoring : Restoring) → IsRestoring restoring → (restoring_by restoring).made [] ≡ only []
restores_none restoring is = ap (λ s. only (segment_bytes s)) is.starts

pub restores_more : (restoring : Restoring) → IsRestoring restoring → (a b : List ℕ)
    → AreFrontsOf ((restoring_by restoring).made a) ((restoring_by restoring).made (a ++ b))
restores_more restoring is a b =
    let on = is.grows (symbols a) (symbols b) in (
      (segment_bytes on.0, sym (grind (arith, map-append, segment_bytes-append))),
      ([], refl),
    )
