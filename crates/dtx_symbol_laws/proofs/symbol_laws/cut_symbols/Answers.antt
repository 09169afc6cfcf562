use Rattle.dtx_jobs.proofs.SplicedSymbolsLemmas.{cut_written}
use Rattle.dtx_symbol_laws.proofs.symbol_laws.cut_symbols.Goals as goal

pub returns : goal.returns
returns c = cut_written
