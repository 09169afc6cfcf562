use Rattle.dtx_words.proofs.FittingLemmas.{command_fits, none_fits}
use Rattle.dtx_words.proofs.laws.the_command_is_fitted.Goals as goal

pub returns : goal.returns
returns c = record { some = command_fits; none = none_fits }
