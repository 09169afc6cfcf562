use Rattle.dtx_slice.proofs.Stores.{last_loaded, last_small}
use Rattle.dtx_slice.proofs.walk.load_last.Goals as goal

pub returns-clause-levels : goal.returns-clause-levels
returns-clause-levels c = λ p l. last_loaded p c.args.levels.now c.told-levels l

pub returns-clause-small : goal.returns-clause-small
returns-clause-small c = last_small c.args.levels.now c.told-levels c.requires
