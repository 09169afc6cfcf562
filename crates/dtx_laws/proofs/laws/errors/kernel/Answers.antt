use Rattle.dtx_laws.proofs.KernelLemmas.{kernel}
use Rattle.dtx_laws.proofs.laws.errors.kernel.Goals as goal

pub returns : goal.returns
returns c = kernel
