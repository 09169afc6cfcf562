use Rattle.std.proofs.Common.{refl, ◌∙◌}
use Rattle.dtx_coder.proofs.NextLemmas.{new_stands}
use Rattle.dtx_adapter.specs.Feed.{feed, feed_to}
use Rattle.dtx_adapter.proofs.adapter.Adapter.new.Goals as goal

pub returns-clause-stands : goal.returns-clause-stands
unfolding feed feed_to
returns-clause-stands c = record {
  fills = c.in_ok-new.ensures.fills;
  given = refl;
  coder = c.in_ok-new-2.ensures ∙ new_stands;
}
