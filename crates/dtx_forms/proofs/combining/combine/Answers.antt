use Rattle.std.proofs.Common.{◌∙◌}
use Rattle.dtx_forms.specs.Job.{IsJobPerformed}
use Rattle.dtx_forms.specs.Transform.{combine_job}
use Rattle.dtx_forms.specs.Stages.{IsStaged}
use Rattle.dtx_forms.proofs.WordsLemmas.{by_four}
use Rattle.dtx_forms.proofs.combining.combine.Goals as goal

pub returns-in-len4 : goal.returns-in-len4
returns-in-len4 g c =
    let job = combine_job g.C.Combining.command g.C.Combining.means g.C.Combining.stages in
    let told = g.S.Shelf.files c.args.shelf.now in
    let now = g.S.Shelf.files c.combine_files.new.shelf in
    let before = g.S.Shelf.counts c.args.shelf.now in
    let after = g.S.Shelf.counts c.combine_files.new.shelf in
    let both = by_four (λ w. IsJobPerformed job w c.combine_files.result told now before after
    × IsStaged g.S.Shelf.foreseen (job.stages w) c.combine_files.result.status told now before after)
    c.args.words.now _ _ _ c.as_str.result.now c.as_str-in-len4.result.now c.as_str-in-len4-2.result.now
    c.in-len4.len_at_least c.in-len4.len_below (c.as_str.ensures ∙ c.first-item.is)
    (c.as_str-in-len4.ensures ∙ c.second-item.is) (c.as_str-in-len4-2.ensures ∙ c.output-item.is)
    (c.combine_files.ensures.performed, c.combine_files.ensures.stages) in
    record { performed = both.0; stages = both.1 }
