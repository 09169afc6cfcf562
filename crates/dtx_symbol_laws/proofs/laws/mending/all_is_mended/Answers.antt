use Rattle.dtx_symbol_laws.proofs.MendedBackLemmas.{all_mended_of, as_long, packets_read}
use Rattle.dtx_symbol_laws.proofs.laws.mending.all_is_mended.Goals as goal

pub returns : goal.returns
returns c = record { written = all_mended_of; packets = packets_read; long = as_long }
