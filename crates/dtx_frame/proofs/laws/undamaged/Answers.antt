use Rattle.dtx_frame.proofs.SlicesLemmas.{sliced_symbol, data_back, end_back, last_back}
use Rattle.dtx_frame.proofs.laws.undamaged.Goals as goal

pub returns-clause-symbol : goal.returns-clause-symbol
returns-clause-symbol c = sliced_symbol

pub returns-clause-data : goal.returns-clause-data
returns-clause-data c = data_back

pub returns-clause-end : goal.returns-clause-end
returns-clause-end c = end_back

pub returns-clause-last : goal.returns-clause-last
returns-clause-last c = last_back
