use Rattle.std.proofs.Common.{◌∙◌}
use Rattle.dtx_words.specs.Fitting.{number_within}
use Rattle.dtx_forms.specs.Capture.{rounds_job}
use Rattle.dtx_forms.specs.Job.{IsJobPerformed}
use Rattle.dtx_forms.specs.Stages.{IsStaged}
use Rattle.dtx_forms.proofs.NumbersLemmas.{and_setting, within_range}
use Rattle.dtx_forms.proofs.WordsLemmas.{by_five}
use Rattle.dtx_forms.proofs.capturing.transform_in_rounds.Goals as goal

pub both_read-setting-requires-clause-scale : goal.both_read-setting-requires-clause-scale
both_read-setting-requires-clause-scale g c =
    within_range 1 18 c.as_str.result.now c.number_within-scale.result c.number_within-scale.ensures

pub both_read-setting-requires-clause-rounds : goal.both_read-setting-requires-clause-rounds
both_read-setting-requires-clause-rounds g c =
    within_range 1 32 c.as_str-in-len5.result.now c.number_within-rounds.result c.number_within-rounds.ensures

pub returns-in-len5 : goal.returns-in-len5
returns-in-len5 g c =
    let job = rounds_job g.E.Capturing.command g.E.Engine.shape g.E.Capturing.makes in
    let is = rw (c.both_read-setting.ensures.setting, c.number_within-scale.ensures, c.number_within-rounds.ensures) at
    c.transform_capture.ensures in
    let told = g.S.Shelf.files c.args.shelf.now in
    let now = g.S.Shelf.files c.transform_capture.new.shelf in
    let before = g.S.Shelf.counts c.args.shelf.now in
    let after = g.S.Shelf.counts c.transform_capture.new.shelf in
    let both = by_five (λ w. IsJobPerformed job w c.transform_capture.result told now before after
    × IsStaged g.S.Shelf.foreseen (job.stages w) c.transform_capture.result.status told now before after)
    c.args.words.now _ _ _ _ c.as_str.result.now c.as_str-in-len5.result.now c.as_str-in-len5-2.result.now
    c.as_str-in-len5-3.result.now c.in-len5.len_at_least c.in-len5.len_below (c.as_str.ensures ∙ c.scale-item.is)
    (c.as_str-in-len5.ensures ∙ c.rounds-item.is) (c.as_str-in-len5-2.ensures ∙ c.input-item.is)
    (c.as_str-in-len5-3.ensures ∙ c.output-item.is) (
      rw (and_setting (number_within 1 18 c.as_str.result.now) (number_within 1 32 c.as_str-in-len5.result.now) _) at
          is.performed,
      is.stages,
    ) in
    record { performed = both.0; stages = both.1 }
