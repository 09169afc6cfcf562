use Rattle.std.proofs.Common.{◌++◌, ap, drop, map, ◌∙◌}
use Rattle.std.proofs.lemmas.Simd.{map-map}
use Rattle.dtx_trellis.specs.Trellis.{symbol_of}
use Rattle.dtx_frame.specs.Segments.{data_segment, segment_sync}
use Rattle.dtx_acquire.specs.Acquired.{restored_data, scaled_level}
use Rattle.dtx_acquire.proofs.restoring.restore_data.Goals as goal

pub returns : goal.returns
unfolding data_segment restored_data
returns c =
    c.data_segment.ensures ∙ ap (λ levels. segment_sync ++ map symbol_of levels) c.levels.ensures.levels
    ∙ ap (λ xs. segment_sync ++ xs) (map-map symbol_of (scaled_level c.args.decisions.now.scale)
    (drop 4 c.args.segment.now))
