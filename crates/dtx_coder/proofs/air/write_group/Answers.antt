use Rattle.std.proofs.Common.{◌++◌, ap, ◌∙◌}
use Rattle.dtx_frame.specs.Segments.{segment_sync}
use Rattle.dtx_trellis.specs.Groups.{levels_of}
use Rattle.dtx_coder.proofs.Sent.{four_written}
use Rattle.dtx_coder.proofs.air.write_group.Goals as goal

pub returns-in-Some-clause-symbols : goal.returns-in-Some-clause-symbols
returns-in-Some-clause-symbols c =
    four_written (levels_of c.args.first c.args.twelve.now c.args.bytes.now) c.put_segment_syncs.new.symbols
    c.put_segment_syncs.ensures.long
    (λ s l. c.put_segment_syncs.ensures.segments s l ∙ ap (λ xs. segment_sync ++ xs) (c.group.ensures.symbols s l))
