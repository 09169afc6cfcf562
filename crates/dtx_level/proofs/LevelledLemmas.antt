-- What is levelled and measured of a capture, piece by piece and whole.
use Rattle.std.proofs.Common.{◌≡◌, ℤ, List, [], ◌++◌, arith}
use Rattle.std.proofs.lemmas.List.{take-append-drop}
use Rattle.dtx_level.specs.Syncs.{all_syncs}
use Rattle.dtx_level.specs.Levelled.{known, levelled, levelled_rest, levelled_so_far}
use Rattle.dtx_level.specs.Measures.{IsGrown, measures, measures_rest, measures_so_far}
use Rattle.dtx_level.proofs.Ending.{few_none, known_none}
use Rattle.dtx_level.proofs.Growing.{grows, measured_in_parts}
use Rattle.dtx_level.proofs.MeasuresBehind.{measures_none}

-- of no symbols
pub none_so_far : (levelled_so_far [] ≡ []) × (measures_so_far [] ≡ [])
none_so_far = ((known_none [] (few_none [] (omega arith))).0, measures_none (λ met. met) [] (few_none [] (omega arith)))

-- of more symbols
pub so_far_grows : (symbols more : List ℤ) → IsGrown symbols more
so_far_grows = grows

-- of all symbols
pub all_are_levelled : (symbols : List ℤ) → levelled_so_far symbols ++ levelled_rest symbols ≡ levelled symbols
unfolding levelled_so_far levelled_rest
all_are_levelled symbols = take-append-drop (known symbols) (levelled symbols)

pub all_are_measured : (symbols : List ℤ) → measures_so_far symbols ++ measures_rest symbols ≡ measures symbols
all_are_measured = measured_in_parts

-- where there is no sync
pub none_levelled : (symbols : List ℤ) → all_syncs symbols ≡ [] → (levelled symbols ≡ []) × (measures symbols ≡ [])
unfolding levelled
none_levelled symbols none = grind (arith, measures_none)
