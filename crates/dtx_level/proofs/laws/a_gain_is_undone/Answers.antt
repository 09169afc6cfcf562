use Rattle.dtx_level.proofs.Gains.{constant_undone, gain_undone, symbol_undone}
use Rattle.dtx_level.proofs.laws.a_gain_is_undone.Goals as goal

pub returns-clause-symbol : goal.returns-clause-symbol
returns-clause-symbol c = symbol_undone

pub returns-clause-gain : goal.returns-clause-gain
returns-clause-gain c = gain_undone

pub returns-clause-constant : goal.returns-clause-constant
returns-clause-constant c = constant_undone
