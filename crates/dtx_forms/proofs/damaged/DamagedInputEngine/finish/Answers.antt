use Rattle.std.proofs.Common.{arith}
use Rattle.dtx_make.proofs.LaidLemmas.{length-hurt}
use Rattle.dtx_forms.proofs.damaged.DamagedInputEngine.finish.Goals as goal

pub finish-requires : goal.finish-requires
finish-requires g c = grind (arith, length-hurt)
