use Rattle.dtx_adapter.proofs.TurnsLemmas as turns
use Rattle.dtx_adapter.proofs.laws.in_turn.Goals as goal

pub returns : goal.returns
returns c = λ plan stream from to i. turns.in_turn plan.transmitters stream from to i
