use Rattle.dtx_watch.proofs.ToldLemmas.{nothing_told, told_further, all_told}
use Rattle.dtx_watch.proofs.laws.told_in_turn.Goals as goal

pub returns : goal.returns
returns c = record { nothing = nothing_told; more = told_further; all = all_told }
