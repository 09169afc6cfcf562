use Rattle.dtx_trellis.proofs.StoresLemmas.{last_loaded}
use Rattle.dtx_trellis.proofs.walk.load_last.Goals as goal

pub returns-clause-bytes : goal.returns-clause-bytes
returns-clause-bytes c = λ p l. last_loaded p c.args.bytes.now c.told-bytes l
