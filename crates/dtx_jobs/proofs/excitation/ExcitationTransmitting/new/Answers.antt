use Rattle.std.proofs.Common.{[], subst, sym, ◌∙◌}
use Rattle.dtx_exciter.specs.Kept.{StandsFor}
use Rattle.dtx_jobs.proofs.LifeOn.{tally_none}
use Rattle.dtx_jobs.proofs.excitation.ExcitationTransmitting.new.Goals as goal

pub returns-clause-given : goal.returns-clause-given
returns-clause-given c = record {
  exciter = subst (λ e. StandsFor c.args.address c.args.delay e []) (sym c.in_ok-new-2.ensures.ok)
      c.in_ok-new.ensures;
  tally = c.in_ok-new-3.ensures.tally
      ∙ sym (tally_none c.args.address c.args.delay);
}
