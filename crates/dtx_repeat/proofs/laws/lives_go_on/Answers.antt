use Rattle.dtx_repeat.proofs.LivesLemmas.{as_many, lives_more, lives_end}
use Rattle.dtx_repeat.proofs.laws.lives_go_on.Goals as goal

pub returns : goal.returns
returns c = record { many = as_many; segment = lives_more; end = lives_end }
