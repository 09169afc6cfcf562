use Rattle.std.proofs.Common.{arith}
use Rattle.dtx_forms.proofs.AnswersLemmas.{transformed_knows}
use Rattle.dtx_forms.proofs.OfWordsLemmas.{pair_told}
use Rattle.dtx_forms.proofs.StagesLemmas.{loop_staged}
use Rattle.dtx_forms.proofs.transforming.transform_files.Goals as goal

pub returns-in-Ok-clause-performed : goal.returns-in-Ok-clause-performed
returns-in-Ok-clause-performed g c = record {
  carried = rw (← c.in-Ok.ensures.makes) c.transform.ensures.carried;
  words = pair_told c.args.output.now _ 1 _ c.transform.ensures.input;
  answers = transformed_knows g.E.Transforming.makes g.E.Transforming.command _ g.met.E.Transforming.knows
      (rw (← c.in-Ok.ensures.makes) c.transform.ensures.answer);
  gone = c.transform.ensures.gone;
}

pub returns-in-Ok-clause-stages : goal.returns-in-Ok-clause-stages
returns-in-Ok-clause-stages g c = grind (arith, loop_staged)
