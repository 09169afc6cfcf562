use Rattle.std.proofs.Common.{ap, sym, ◌∙◌}
use Rattle.std.specs.Prelude.{is_some}
use Rattle.dtx_plan.proofs.PlacesLemmas.{has_place}
use Rattle.dtx_plan.proofs.transmitters.Transmitters.has.Goals as goal

pub returns : goal.returns
returns c = c.is_some.ensures ∙ ap is_some c.place.ensures.place ∙ sym (has_place c.args.address c.args.self.now)
