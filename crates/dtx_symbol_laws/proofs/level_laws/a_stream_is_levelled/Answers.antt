use Rattle.dtx_symbol_laws.proofs.LevelledStream.{begun_below, stream_levelled, whole_sync}
use Rattle.dtx_symbol_laws.proofs.level_laws.a_stream_is_levelled.Goals as goal

pub returns-clause-levelled : goal.returns-clause-levelled
returns-clause-levelled c = stream_levelled c.whole_fields_are_levelled.ensures

pub returns-clause-places : goal.returns-clause-places
returns-clause-places c = begun_below

pub returns-clause-whole : goal.returns-clause-whole
returns-clause-whole c = whole_sync
