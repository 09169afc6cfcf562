use Rattle.std.proofs.Common.{◌∙◌}
use Rattle.std.specs.Prelude.{Some}
use Rattle.dtx_words.specs.Fitting.{number_within}
use Rattle.dtx_forms.specs.Capture.{scaled_job}
use Rattle.dtx_forms.specs.Job.{IsJobPerformed}
use Rattle.dtx_forms.specs.Stages.{IsStaged}
use Rattle.dtx_forms.proofs.NumbersLemmas.{and_setting, within_range}
use Rattle.dtx_forms.proofs.WordsLemmas.{by_four}
use Rattle.dtx_forms.proofs.capturing.transform_scaled.Goals as goal

pub both_read-setting-requires-clause-scale : goal.both_read-setting-requires-clause-scale
both_read-setting-requires-clause-scale g c =
    within_range 1 18 c.as_str.result.now c.number_within-scale.result c.number_within-scale.ensures

pub returns-in-len4 : goal.returns-in-len4
returns-in-len4 g c =
    let job = scaled_job g.E.Capturing.command g.E.Engine.shape g.E.Capturing.makes in
    let is = rw (c.both_read-setting.ensures.setting, c.number_within-scale.ensures) at c.transform_capture.ensures in
    let told = g.S.Shelf.files c.args.shelf.now in
    let now = g.S.Shelf.files c.transform_capture.new.shelf in
    let before = g.S.Shelf.counts c.args.shelf.now in
    let after = g.S.Shelf.counts c.transform_capture.new.shelf in
    let both = by_four (λ w. IsJobPerformed job w c.transform_capture.result told now before after
    × IsStaged g.S.Shelf.foreseen (job.stages w) c.transform_capture.result.status told now before after)
    c.args.words.now _ _ _ c.as_str.result.now c.as_str-in-len4.result.now c.as_str-in-len4-2.result.now
    c.in-len4.len_at_least c.in-len4.len_below (c.as_str.ensures ∙ c.scale-item.is)
    (c.as_str-in-len4.ensures ∙ c.input-item.is) (c.as_str-in-len4-2.ensures ∙ c.output-item.is)
    (rw (and_setting (number_within 1 18 c.as_str.result.now) (Some 1) _) at is.performed, is.stages) in
    record { performed = both.0; stages = both.1 }
