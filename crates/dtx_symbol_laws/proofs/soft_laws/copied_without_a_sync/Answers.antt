use Rattle.dtx_symbol_laws.proofs.SoftFiles.{copied_whole}
use Rattle.dtx_symbol_laws.proofs.soft_laws.copied_without_a_sync.Goals as goal

pub returns : goal.returns
returns c = copied_whole
