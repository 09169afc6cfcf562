use Rattle.std.proofs.Common.{sym, ◌∙◌, arith}
use Rattle.std.proofs.lemmas.List.{get_or_default}
use Rattle.dtx_exciter.specs.Log.{restart}
use Rattle.dtx_schedule.proofs.PlayoutOn.{given_restart, sent_restarted, restart_brings}
use Rattle.dtx_schedule.proofs.playout.Playout.renew.Goals as goal

pub returns-clause-playing : goal.returns-clause-playing
returns-clause-playing c = λ ts steps s. record {
  net = c.restart.ensures.restarts ts steps s.net;
  sent = sent_restarted ts steps c.args.who c.args.self.now.sent.items s.sent;
  few = λ who n at_n. omega (arith, s.few who n at_n);
  count = s.count ∙ sym (given_restart steps c.args.who);
  transmitters = s.transmitters;
  names = s.names;
}

pub returns-clause-brings : goal.returns-clause-brings
returns-clause-brings c = grind (arith, restart_brings, get_or_default)
