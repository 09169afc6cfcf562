use Rattle.dtx_symbol_laws.proofs.SoftFiles.{all_softened, first_are_front, too_many_segments}
use Rattle.dtx_symbol_laws.proofs.soft_laws.all_is_softened.Goals as goal

pub returns-clause-whole : goal.returns-clause-whole
returns-clause-whole c = all_softened

pub returns-clause-too_long : goal.returns-clause-too_long
returns-clause-too_long c = too_many_segments

pub returns-clause-front : goal.returns-clause-front
returns-clause-front c = first_are_front
