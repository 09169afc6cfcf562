use Rattle.std.proofs.Common.{ap, ◌∙◌}
use Rattle.dtx_plan.proofs.PlacesLemmas.{place_within}
use Rattle.dtx_plan.specs.TransmitterTable.{transmitter_place}
use Rattle.dtx_plan.proofs.transmitters.Transmitters.place.Goals as goal

pub returns-clause-within : goal.returns-clause-within
returns-clause-within c =
    place_within c.args.address c.args.self.now c.copied.result (c.copied.ensures ∙ c.get.ensures.value
    ∙ c.self.invariant c.args.address ∙ ap (transmitter_place c.args.address) c.self.view_is)
