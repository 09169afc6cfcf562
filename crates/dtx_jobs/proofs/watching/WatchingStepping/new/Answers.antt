use Rattle.std.proofs.Common.{[], ap, subst, sym, ◌∙◌}
use Rattle.dtx_watch.specs.Kept.{StandsFor}
use Rattle.dtx_watch.proofs.ToldLemmas.{nothing_told}
use Rattle.dtx_recipes.specs.Watch.{watch_tally}
use Rattle.dtx_jobs.proofs.watching.WatchingStepping.new.Goals as goal

pub returns-clause-given : goal.returns-clause-given
returns-clause-given c = record {
  watcher = subst (λ w. StandsFor w []) (sym c.in_ok-new-2.ensures.ok) c.in_ok-new.ensures;
  tally = c.new-5.ensures ∙ ap (watch_tally 0) (sym nothing_told);
}
