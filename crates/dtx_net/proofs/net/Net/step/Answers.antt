use Rattle.std.proofs.Common.{sym, subst, ◌≡◌, Some}
use Rattle.std.specs.Prelude.{slice_get}
use Rattle.std.proofs.lemmas.Option.{slice_get_read}
use Rattle.dtx_exciter.specs.Kept as exciter
use Rattle.dtx_net.specs.Steps.{packet_step}
use Rattle.dtx_net.specs.Lives.{last_life}
use Rattle.dtx_net.proofs.LastLifeLemmas.{last_given}
use Rattle.dtx_net.proofs.Stands.{stands_replaced, elsewhere_replaced}
use Rattle.dtx_net.proofs.net.Net.step.Goals as goal

pub returns-clause-given : goal.returns-clause-given
returns-clause-given c = λ ts steps t s at_t.
    let who = c.args.who in
    let net = c.args.self.now in
    let packet = c.args.packet.now.0 in
    let was : slice_get net.exciters.items who ≡ Some c.index_mut.result.now =
    slice_get_read net.exciters.items net.exciters.len who c.index_mut.result.now net.exciters.ok.0 c.requires
    c.index_mut.ensures.value in
    let taken = c.take.ensures t.address t.delay (last_life who steps) (s.each who t c.index_mut.result.now at_t was) in
    record {
      answer = taken.answer;
      air = taken.air;
      stands = stands_replaced ts net steps (packet_step who packet) c.take.new.self _ s c.requires
          (λ u at_u. subst (exciter.StandsFor u.address u.delay c.take.new.self) (sym (last_given who steps packet))
          (c.take.ensures u.address u.delay (last_life who steps)
          (s.each who u c.index_mut.result.now at_u was)).stands);
    }

pub returns-clause-elsewhere : goal.returns-clause-elsewhere
returns-clause-elsewhere c = elsewhere_replaced c.args.self.now c.args.who c.take.new.self _
