use Rattle.std.proofs.Common.{◌∙◌}
use Rattle.dtx_forms.specs.Job.{IsJobPerformed}
use Rattle.dtx_forms.specs.Stages.{IsStaged}
use Rattle.dtx_forms.specs.Logged.{transmit_job}
use Rattle.dtx_forms.proofs.WordsLemmas.{by_six}
use Rattle.dtx_forms.proofs.transmitting.transmit.Goals as goal

pub returns-in-len6 : goal.returns-in-len6
returns-in-len6 g c =
    let job = transmit_job g.E.Transmitting.command g.E.Step.shape g.E.Transmitting.sends in
    let told = g.S.Shelf.files c.args.shelf.now in
    let now = g.S.Shelf.files c.transmit_read.new.shelf in
    let before = g.S.Shelf.counts c.args.shelf.now in
    let after = g.S.Shelf.counts c.transmit_read.new.shelf in
    let both = by_six (λ w. IsJobPerformed job w c.transmit_read.result told now before after
    × IsStaged g.S.Shelf.foreseen (job.stages w) c.transmit_read.result.status told now before after)
    c.args.words.now _ _ _ _ _ c.as_str.result.now c.as_str-in-len6-3.result.now c.as_str-in-len6-4.result.now
    c.as_str-in-len6.result.now c.as_str-in-len6-2.result.now c.in-len6.len_at_least c.in-len6.len_below
    (c.as_str.ensures ∙ c.input-item.is) (c.as_str-in-len6-3.ensures ∙ c.address-item.is)
    (c.as_str-in-len6-4.ensures ∙ c.delay-item.is) (c.as_str-in-len6.ensures ∙ c.output-item.is)
    (c.as_str-in-len6-2.ensures ∙ c.log-item.is) (c.transmit_read.ensures.performed, c.transmit_read.ensures.stages) in
    record { performed = both.0; stages = both.1 }
