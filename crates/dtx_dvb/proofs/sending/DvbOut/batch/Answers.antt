use Rattle.std.proofs.Common.{◌++◌, sym, ap, ap₂, ◌∙◌, subst}
use Rattle.dtx_laws.specs.Branches.{leaving_all, after_all}
use Rattle.dtx_outer.specs.Outer.{Held}
use Rattle.dtx_dvb.specs.Stream.{dvb, HasSent}
use Rattle.dtx_dvb.proofs.StreamLemmas.{bytes_more, sent_more}
use Rattle.dtx_dvb.proofs.sending.DvbOut.batch.Goals as goal

pub returns-clause-bytes : goal.returns-clause-bytes
returns-clause-bytes c = c.interleave.ensures.bytes ∙ ap₂ (leaving_all 12) c.self.view_is c.encode_fours.ensures

pub returns-clause-branches : goal.returns-clause-branches
returns-clause-branches c =
    ap (λ (outer : Held). outer.branches) c.interleave.ensures.branches
    ∙ ap₂ (after_all 12) c.self.view_is c.encode_fours.ensures

pub returns-clause-stream : goal.returns-clause-stream
returns-clause-stream c = λ before h e.
    bytes_more before c.args.packets.now c.args.place c.args.self.now h e
    ∙ ap (λ xs. dvb before ++ xs) (sym (returns-clause-bytes c))

pub returns-clause-sent : goal.returns-clause-sent
returns-clause-sent c = λ before h e.
    subst (HasSent (before ++ c.args.packets.now)) (sym (returns-clause-branches c))
    (sent_more before c.args.packets.now c.args.place c.args.self.now h e)
