use Rattle.std.proofs.Common.{[], length, subst, sym, ap, ◌∙◌, arith}
use Rattle.dtx_receiver.proofs.CountingLemmas.{no_segments}
use Rattle.dtx_repeat.specs.GoingOn.{last_life}
use Rattle.dtx_repeat.proofs.LivesLemmas.{no_lives}
use Rattle.dtx_repeat.specs.Repeater.{StandsFor}
use Rattle.dtx_recipes.specs.Life.{lives_tally}
use Rattle.dtx_recipes.specs.declared.life_tally.LifeTally.{LifeTally}
use Rattle.dtx_jobs.proofs.LivesOn.{no_tally}
use Rattle.dtx_jobs.proofs.repetition.RepetitionTransmitting.new.Goals as goal

pub returns-clause-given : goal.returns-clause-given
returns-clause-given c =
    let a = c.args.address in
    let d = c.args.delay in
    let tally = c.in_ok-new-3.ensures.tally in
    record {
      repeating = record {
        sending = record {
          stands = subst (λ l. StandsFor a d c.in_ok-new-2.field-0.value [] (last_life l)) (sym no_lives)
              (subst (λ r. StandsFor a d r [] []) (sym c.in_ok-new-2.ensures.ok) c.in_ok-new.ensures);
          counted = tally ∙ sym (no_tally a d) ∙ ap (lives_tally a d) (sym no_lives);
        };
        count = omega arith;
        begun = omega (arith, ap length no_segments);
      };
      few = record { runs = omega arith; packets = omega (arith, ap (λ (t : LifeTally). t.packets) tally) };
    }
