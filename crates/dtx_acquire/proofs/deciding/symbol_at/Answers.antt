use Rattle.dtx_frame.proofs.SymbolsLemmas.{level_symbol_is}
use Rattle.dtx_acquire.proofs.deciding.symbol_at.Goals as goal

pub returns : goal.returns
returns c = level_symbol_is c.args.level c.requires
