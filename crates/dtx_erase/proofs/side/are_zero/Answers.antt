use Rattle.std.proofs.Common.{arith}
use Rattle.std.proofs.lemmas.Grind.{common_steps, same_number_lists}
use Rattle.std.proofs.lemmas.List.{length-replicate}
use Rattle.dtx_erase.proofs.Quiet.{none_set, zero_at}
use Rattle.dtx_erase.proofs.side.are_zero.Goals as goal

pub returns : goal.returns
returns c = grind (arith, common_steps, same_number_lists, length-replicate, none_set, zero_at)
