use Rattle.std.proofs.Common.{sym, subst, ◌≡◌, Some}
use Rattle.std.specs.Prelude.{slice_get}
use Rattle.std.proofs.lemmas.Option.{slice_get_read}
use Rattle.dtx_exciter.specs.Kept as exciter
use Rattle.dtx_net.specs.Steps.{restart_step}
use Rattle.dtx_net.specs.Lives.{last_life}
use Rattle.dtx_net.proofs.LastLifeLemmas.{last_restarted}
use Rattle.dtx_net.proofs.Stands.{stands_replaced, elsewhere_replaced}
use Rattle.dtx_net.proofs.net.Net.restart.Goals as goal

pub returns-clause-restarts : goal.returns-clause-restarts
returns-clause-restarts c = λ ts steps s.
    let who = c.args.who in
    let net = c.args.self.now in
    let was : slice_get net.exciters.items who ≡ Some c.index_mut.result.now =
    slice_get_read net.exciters.items net.exciters.len who c.index_mut.result.now net.exciters.ok.0 c.requires
    c.index_mut.ensures.value in
    stands_replaced ts net steps (restart_step who) c.reset.new.self _ s c.requires
    (λ u at_u. subst (exciter.StandsFor u.address u.delay c.reset.new.self) (sym (last_restarted who steps))
    (c.reset.ensures u.address u.delay (last_life who steps) (s.each who u c.index_mut.result.now at_u was)))

pub returns-clause-elsewhere : goal.returns-clause-elsewhere
returns-clause-elsewhere c = elsewhere_replaced c.args.self.now c.args.who c.reset.new.self _
