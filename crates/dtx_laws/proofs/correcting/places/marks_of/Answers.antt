use Rattle.std.proofs.Common.{arith, rules}
use Rattle.dtx_laws.proofs.correcting.places.marks_of.Goals as goal

pub loop-place-init : goal.loop-place-init
loop-place-init c = record { done = λ p l. absurd (omega (arith, l)); long = search rules }
