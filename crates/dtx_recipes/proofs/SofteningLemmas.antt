-- Laws of what `soft` makes of symbols: what the first segments give is a prefix of what more give.
use Rattle.std.proofs.Common.{◌≡◌, ℕ, ℤ, ◌%◌, List, [], ◌++◌, length, refl, sym, ap, arith}
use Rattle.dtx_engine.specs.Made.{AreFrontsOf, only}
use Rattle.dtx_files.proofs.AppendedLemmas.{segment_bytes-append}
use Rattle.dtx_files.specs.Symbols.{segment_bytes}
use Rattle.dtx_recipes.specs.Soft.{softening}
use Rattle.dtx_recipes.specs.SymbolFile.{file_segments}
use Rattle.dtx_recipes.proofs.SymbolFileLemmas.{file_segments-append}
use Rattle.dtx_recipes.proofs.SoftLemmas.{none_so_far, so_far_on}

-- ---- what is made

pub softens_none : softening.made [] ≡ only []
softens_none = ap (λ (s : List (List ℤ)). only (segment_bytes s)) none_so_far

pub softens_more : (a b : List ℕ) → length a % 832 ≡ 0 → AreFrontsOf (softening.made a) (softening.made (a ++ b))
softens_more a b whole =
    let on = so_far_on (file_segments a) (file_segments b) in (
      (segment_bytes on.0, sym (grind (arith, file_segments-append, segment_bytes-append))),
      ([], refl),
    )
