use Rattle.std.proofs.Common.{◌≡◌, ◌++◌, ◌∷◌, [], length, sym, ap, ap₂, ◌∙◌, subst, arith}
use Rattle.dtx_laws.specs.Branches.{leaving_all, after_all}
use Rattle.dtx_dvb.specs.Stream.{dvb, HasSent}
use Rattle.dtx_dvb.proofs.StreamLemmas.{blocks_one, bytes_more, sent_more}
use Rattle.dtx_dvb.proofs.Blocks.{coded_is}
use Rattle.dtx_dvb.proofs.sending.DvbOut.packet.Goals as goal

pub returns-clause-bytes : goal.returns-clause-bytes
returns-clause-bytes c =
    let long : length c.args.packet.now.0 ≡ 188 = omega arith in
    c.code.ensures.bytes
    ∙ ap₂ (leaving_all 12) c.self.view_is
    (coded_is c.args.place c.self.inside.outer.white c.args.packet.now.0 c.self.invariant long c.requires)

pub returns-clause-branches : goal.returns-clause-branches
returns-clause-branches c =
    let long : length c.args.packet.now.0 ≡ 188 = omega arith in
    ap (λ outer. outer.branches) c.code.ensures.branches
    ∙ ap₂ (after_all 12) c.self.view_is
    (coded_is c.args.place c.self.inside.outer.white c.args.packet.now.0 c.self.invariant long c.requires)

pub returns-clause-stream : goal.returns-clause-stream
returns-clause-stream c = λ packets h e.
    bytes_more packets (c.args.packet.now.0 ∷ []) c.args.place c.args.self.now h e
    ∙ ap (λ xs. dvb packets ++ xs) (ap (leaving_all 12 c.args.self.now) (blocks_one c.args.place c.args.packet.now.0)
    ∙ sym (returns-clause-bytes c))

pub returns-clause-sent : goal.returns-clause-sent
returns-clause-sent c = λ packets h e.
    subst (HasSent (packets ++ c.args.packet.now.0 ∷ []))
    (ap (after_all 12 c.args.self.now) (blocks_one c.args.place c.args.packet.now.0)
    ∙ sym (returns-clause-branches c))
    (sent_more packets (c.args.packet.now.0 ∷ []) c.args.place c.args.self.now h e)
