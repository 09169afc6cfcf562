use Rattle.dtx_coder.proofs.AlignLemmas.{behind_groups}
use Rattle.dtx_coder.proofs.laws.behind_align.Goals as goal

pub returns : goal.returns
returns c = behind_groups
