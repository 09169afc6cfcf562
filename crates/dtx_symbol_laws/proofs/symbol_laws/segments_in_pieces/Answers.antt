use Rattle.dtx_jobs.proofs.SymbolFileLemmas.{length-segments_of, file_segments-whole}
use Rattle.dtx_recipes.proofs.SymbolFileLemmas.{file_segments-append}
use Rattle.dtx_symbol_laws.proofs.symbol_laws.segments_in_pieces.Goals as goal

pub returns : goal.returns
returns c = record { pieces = file_segments-append; whole = file_segments-whole; count = length-segments_of }
