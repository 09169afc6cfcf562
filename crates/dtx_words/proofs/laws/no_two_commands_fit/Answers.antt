use Rattle.dtx_words.proofs.FittingLemmas.{command_found, fits_only}
use Rattle.dtx_words.proofs.laws.no_two_commands_fit.Goals as goal

pub returns : goal.returns
returns c = record { only = fits_only; found = command_found }
