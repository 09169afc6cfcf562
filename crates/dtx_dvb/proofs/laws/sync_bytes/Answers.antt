use Rattle.dtx_dvb.proofs.SyncLemmas.{sync_byte, sent_sync}
use Rattle.dtx_dvb.proofs.laws.sync_bytes.Goals as goal

pub returns-clause-blocks : goal.returns-clause-blocks
returns-clause-blocks c = sync_byte

pub returns-clause-sent : goal.returns-clause-sent
returns-clause-sent c = sent_sync
