use Rattle.std.proofs.Common.{false, refl, ◌∙◌, arith}
use Rattle.dtx_meaning.proofs.MeaningLemmas.{of_inputs}
use Rattle.dtx_forms.proofs.transmitting.transmit_apart.Goals as goal

pub returns-in-Ok-clause-performed : goal.returns-in-Ok-clause-performed
returns-in-Ok-clause-performed g c =
    let sends = c.new-in-Ok.ensures.recipe ∙ c.in-Ok.ensures.sends in
    record {
      carried = rw (← sends) c.make_both.ensures.carried;
      words = of_inputs false 0 1 _ refl (omega arith) c.make_both.ensures.input;
      answers = g.met.E.Transmitting.knows c.args.address c.args.delay _ (rw (← sends) c.make_both.ensures.answer);
      gone = c.make_both.ensures.gone;
    }
