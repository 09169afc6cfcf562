-- The files of more segments and of more lines.
use Rattle.std.proofs.Common.{◌≡◌, ℤ, List, ◌++◌, map, ap, ◌∙◌}
use Rattle.std.proofs.lemmas.Grind.{flat_map-append}
use Rattle.std.proofs.lemmas.List.{map-append}
use Rattle.dtx_coder.specs.Stream.{symbols_of}
use Rattle.dtx_exciter.specs.Log.{Line}
use Rattle.dtx_files.specs.LogText.{line_text, log_text}
use Rattle.dtx_files.specs.Symbols.{byte_of_symbol, segment_bytes}

pub segment_bytes-append : (xs ys : List (List ℤ)) → segment_bytes (xs ++ ys) ≡ segment_bytes xs ++ segment_bytes ys
segment_bytes-append xs ys = ap (map byte_of_symbol) (flat_map-append (λ (s : List ℤ). s) xs ys)
    ∙ map-append byte_of_symbol (symbols_of xs) (symbols_of ys)

pub log_text-append : (xs ys : List Line) → log_text (xs ++ ys) ≡ log_text xs ++ log_text ys
log_text-append xs ys = flat_map-append line_text xs ys
