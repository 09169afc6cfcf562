use Rattle.dtx_outside.specs.Counts.{Rose}
use Rattle.dtx_meaning.proofs.MeaningLemmas.{same_at_done}
use Rattle.dtx_meaning.proofs.laws.the_end_touches_no_other_file.Goals as goal

pub returns-clause-others : goal.returns-clause-others
returns-clause-others c = λ m start now status name before after is apart.
    same_at_done m name start now status (Rose before after) apart is
