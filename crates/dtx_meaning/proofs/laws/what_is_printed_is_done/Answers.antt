use Rattle.dtx_outside.specs.Counts.{Rose}
use Rattle.dtx_meaning.proofs.MeaningLemmas.{done_wanting}
use Rattle.dtx_meaning.proofs.laws.what_is_printed_is_done.Goals as goal

pub returns-clause-wanting : goal.returns-clause-wanting
returns-clause-wanting c = λ m start now outcome before after is.
    done_wanting m start now outcome (Rose before after) is
