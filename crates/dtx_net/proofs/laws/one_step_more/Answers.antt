use Rattle.std.proofs.Common.{refl}
use Rattle.dtx_net.specs.Lives.{lives_of}
use Rattle.dtx_net.proofs.LastLifeLemmas.{lives}
use Rattle.dtx_net.proofs.laws.one_step_more.Goals as goal

pub returns-clause-nothing : goal.returns-clause-nothing
unfolding lives_of
returns-clause-nothing c = λ who. refl

pub returns-clause-lives : goal.returns-clause-lives
returns-clause-lives c = λ who steps. (lives who steps).are

pub returns-clause-given : goal.returns-clause-given
returns-clause-given c = λ who steps. (lives who steps).given

pub returns-clause-restarted : goal.returns-clause-restarted
returns-clause-restarted c = λ who steps. (lives who steps).restarted
