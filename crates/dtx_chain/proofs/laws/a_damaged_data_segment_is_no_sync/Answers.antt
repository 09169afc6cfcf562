use Rattle.dtx_chain.proofs.SlightLemmas.{no_sync}
use Rattle.dtx_chain.proofs.laws.a_damaged_data_segment_is_no_sync.Goals as goal

pub returns : goal.returns
returns c = no_sync
