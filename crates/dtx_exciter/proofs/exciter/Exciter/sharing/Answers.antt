use Rattle.std.proofs.Common.{refl}
use Rattle.dtx_exciter.proofs.Taken.{stands_nothing}
use Rattle.dtx_exciter.proofs.exciter.Exciter.sharing.Goals as goal

pub returns : goal.returns
returns c = stands_nothing c.args.address c.args.delay _ refl refl c.new.ensures
