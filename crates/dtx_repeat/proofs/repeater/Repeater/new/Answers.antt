use Rattle.dtx_receiver.specs.Runs.{tracked}
use Rattle.dtx_repeat.proofs.repeater.Repeater.new.Goals as goal

pub returns : goal.returns
unfolding tracked
returns c = record { receiver = c.in_ok-new.ensures; place = _; exciter = c.in_ok-new-2.ensures }
