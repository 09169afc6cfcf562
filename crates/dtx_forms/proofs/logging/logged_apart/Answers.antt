use Rattle.std.proofs.Common.{false, refl, arith}
use Rattle.dtx_meaning.proofs.MeaningLemmas.{of_inputs}
use Rattle.dtx_forms.proofs.logging.logged_apart.Goals as goal

pub returns-in-Ok-clause-performed : goal.returns-in-Ok-clause-performed
returns-in-Ok-clause-performed g c = record {
  carried = rw (← c.in-Ok.ensures.makes) c.make_both.ensures.carried;
  words = of_inputs false 0 1 _ refl (omega arith) c.make_both.ensures.input;
  answers = g.met.E.Transforming.knows _ (rw (← c.in-Ok.ensures.makes) c.make_both.ensures.answer);
  gone = c.make_both.ensures.gone;
}
