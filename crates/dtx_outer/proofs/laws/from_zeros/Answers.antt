use Rattle.dtx_laws.proofs.InterleavingLemmas.{zeros_calls}
use Rattle.dtx_outer.specs.Outer.{codewords}
use Rattle.dtx_outer.proofs.laws.from_zeros.Goals as goal

pub returns : goal.returns
returns c = λ n k b m white s heads p. zeros_calls b m (codewords n k white s heads) p
