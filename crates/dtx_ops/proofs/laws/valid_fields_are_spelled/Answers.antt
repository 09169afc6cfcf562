use Rattle.dtx_ops.proofs.DataLemmas.{length-data_of, AreBytes-data_of, fields-data_of, unrefused-data_of}
use Rattle.dtx_ops.proofs.laws.valid_fields_are_spelled.Goals as goal

pub returns-clause-long : goal.returns-clause-long
returns-clause-long c = length-data_of

pub returns-clause-bytes : goal.returns-clause-bytes
returns-clause-bytes c = AreBytes-data_of

pub returns-clause-unrefused : goal.returns-clause-unrefused
returns-clause-unrefused c = unrefused-data_of

pub returns-clause-fields : goal.returns-clause-fields
returns-clause-fields c = fields-data_of
