use Rattle.dtx_ops.proofs.DataLemmas.{valid_unrefused, spelled_unrefused}
use Rattle.dtx_ops.proofs.laws.unrefused_data_are_spelled.Goals as goal

pub returns-clause-valid : goal.returns-clause-valid
returns-clause-valid c = valid_unrefused

pub returns-clause-spelled : goal.returns-clause-spelled
returns-clause-spelled c = spelled_unrefused
