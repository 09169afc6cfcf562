use Rattle.std.proofs.Common.{length}
use Rattle.dtx_words.proofs.fitting.+fit_fields.Given as goal

abbrev pub decreases-fit_fields : goal.decreases-fit_fields
decreases-fit_fields l = length l.fields.now
