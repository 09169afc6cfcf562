use Rattle.dtx_symbol_laws.proofs.SoftCoded.{stream_file_stays}
use Rattle.dtx_symbol_laws.proofs.SoftStays.{stream_costs_nothing, stream_stays}
use Rattle.dtx_symbol_laws.proofs.soft_laws.a_stream_stays.Goals as goal

pub returns-clause-symbols : goal.returns-clause-symbols
returns-clause-symbols c = stream_stays c.coder_takes_a_path.ensures c.keeps_own_field.ensures

pub returns-clause-cost : goal.returns-clause-cost
returns-clause-cost c = stream_costs_nothing c.coder_takes_a_path.ensures c.keeps_own_field.ensures

pub returns-clause-file : goal.returns-clause-file
returns-clause-file c = stream_file_stays c.coder_takes_a_path.ensures c.keeps_own_field.ensures
