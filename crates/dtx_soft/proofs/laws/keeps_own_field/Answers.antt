use Rattle.dtx_soft.proofs.OwnField.{own_field}
use Rattle.dtx_soft.proofs.laws.keeps_own_field.Goals as goal

pub returns : goal.returns
returns c = own_field
