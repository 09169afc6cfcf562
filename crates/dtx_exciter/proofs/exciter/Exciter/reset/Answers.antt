use Rattle.dtx_exciter.proofs.Taken.{stands_nothing}
use Rattle.dtx_exciter.proofs.exciter.Exciter.reset.Goals as goal

pub returns : goal.returns
returns c = λ a d before h. stands_nothing a d _ h.address h.delay c.new-self.ensures
