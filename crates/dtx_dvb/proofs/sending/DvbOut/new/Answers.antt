use Rattle.std.proofs.Common.{[], sym, ap, ◌∙◌, subst}
use Rattle.dtx_outer.specs.Outer.{Held}
use Rattle.dtx_dvb.specs.Stream.{HasSent}
use Rattle.dtx_dvb.proofs.StreamLemmas.{sent_nothing}
use Rattle.dtx_dvb.proofs.sending.DvbOut.new.Goals as goal

pub returns : goal.returns
returns c =
    subst (HasSent []) (sym (ap (λ (outer : Held). outer.branches) c.new-4.ensures ∙ c.in_ok-new-2.ensures))
    sent_nothing
