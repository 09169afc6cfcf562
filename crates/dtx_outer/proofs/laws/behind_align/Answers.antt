use Rattle.dtx_laws.proofs.InterleavingLemmas.{behind_calls}
use Rattle.dtx_outer.specs.Outer.{codewords}
use Rattle.dtx_outer.proofs.laws.behind_align.Goals as goal

pub returns : goal.returns
returns c = λ n k b m white s heads v h. behind_calls b m v (codewords n k white s heads) h
