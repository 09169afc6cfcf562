use Rattle.std.proofs.Common.{refl, sym, ap, subst}
use Rattle.dtx_outer.specs.Outer.{Held}
use Rattle.dtx_coder.specs.Stream.{zero_states, no_last}
use Rattle.dtx_coder.specs.Groups.{IsAtsc, new_coding}
use Rattle.dtx_coder.proofs.Packets.{atsc_new}
use Rattle.dtx_coder.proofs.NextLemmas.{same_coding}
use Rattle.dtx_coder.proofs.coder.Coder.sharing.Goals as goal

pub invariant_of-result : goal.invariant_of-result
invariant_of-result c = subst IsAtsc (sym c.in_ok-new_outer_coding.ensures) atsc_new

pub returns : goal.returns
unfolding new_coding zero_states no_last
returns c = same_coding _ _ _ _ _ _ c.new.ensures refl (ap (λ (o : Held). o.branches) c.in_ok-new_outer_coding.ensures)
