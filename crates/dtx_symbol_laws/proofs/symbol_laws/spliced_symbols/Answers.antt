use Rattle.dtx_jobs.proofs.SplicedSymbolsLemmas.{spliced_written}
use Rattle.dtx_symbol_laws.proofs.symbol_laws.spliced_symbols.Goals as goal

pub returns : goal.returns
returns c = spliced_written
