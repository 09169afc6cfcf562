use Rattle.std.proofs.Common.{ap, ◌∙◌}
use Rattle.dtx_slice.specs.Unrolled.{precoder_bits_of}
use Rattle.dtx_receiver.proofs.GroupedLemmas.{grouped_first}
use Rattle.dtx_receiver.proofs.groups.Groups.begin.Goals as goal

pub returns-clause-grouped : goal.returns-clause-grouped
returns-clause-grouped c =
    grouped_first c.args.sync.now c.self.inside.levels c.start.new.self
    (c.start.ensures.precoder_bits ∙ ap precoder_bits_of c.last_levels.ensures.levels)
