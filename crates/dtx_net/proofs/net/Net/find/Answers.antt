use Rattle.std.proofs.Common.{ap, ◌∙◌}
use Rattle.dtx_plan.specs.TransmitterTable.{transmitter_place}
use Rattle.dtx_net.proofs.net.Net.find.Goals as goal

pub returns-clause-place : goal.returns-clause-place
returns-clause-place c = λ ts steps s. c.place.ensures.place ∙ ap (transmitter_place c.args.address) s.transmitters
