use Rattle.std.proofs.Common.{sym, subst, ◌∙◌}
use Rattle.dtx_exciter.specs.Kept as exciter
use Rattle.dtx_net.proofs.LastLifeLemmas.{last_nothing}
use Rattle.dtx_net.proofs.net.Net.new.Goals as goal

pub returns : goal.returns
returns c =
    let made = c.in_ok-exciters_of.ensures in
    record {
      transmitters = c.in_ok-from_slice.ensures;
      long = c.in_ok-exciters_of.field-0.ok.0 ∙ made.long;
      each = λ who t e at_t at_e. subst (exciter.StandsFor t.address t.delay e) (sym (last_nothing who))
          (made.each who t e at_t at_e);
    }
