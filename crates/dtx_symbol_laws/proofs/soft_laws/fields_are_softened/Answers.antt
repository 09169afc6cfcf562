use Rattle.dtx_symbol_laws.proofs.SoftFields.{fields_become, fields_count, others_stay}
use Rattle.dtx_symbol_laws.proofs.soft_laws.fields_are_softened.Goals as goal

pub returns-clause-count : goal.returns-clause-count
returns-clause-count c = fields_count

pub returns-clause-fields : goal.returns-clause-fields
returns-clause-fields c = fields_become

pub returns-clause-others : goal.returns-clause-others
returns-clause-others c = others_stay
