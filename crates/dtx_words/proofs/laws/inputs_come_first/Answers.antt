use Rattle.std.proofs.Common.{refl}
use Rattle.dtx_words.specs.Rows.{are_inputs_first, row_of}
use Rattle.dtx_words.proofs.FittingLemmas.{of_every}
use Rattle.dtx_words.proofs.laws.inputs_come_first.Goals as goal

pub returns : goal.returns
returns c = of_every (λ command. are_inputs_first (row_of command).fields) refl
