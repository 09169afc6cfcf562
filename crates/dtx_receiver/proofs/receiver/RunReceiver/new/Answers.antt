use Rattle.std.proofs.Common.{None, refl}
use Rattle.dtx_receiver.proofs.AnswersLemmas.{stands_new}
use Rattle.dtx_receiver.proofs.receiver.RunReceiver.new.Goals as goal

pub returns : goal.returns
returns g c = stands_new g.D.RunDecoder.decodes None c.in_ok-new.field-0 refl
