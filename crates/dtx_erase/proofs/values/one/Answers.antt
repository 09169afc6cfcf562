use Rattle.std.proofs.Common.{◌≡◌, ℕ, zero, suc, [], replicate, set, get_or, refl}
use Rattle.dtx_fast.specs.Recurrence.{connection}
use Rattle.dtx_fast.proofs.StageLemmas.{zeros_at}
use Rattle.dtx_erase.proofs.values.one.Goals as goal

first_alone : (k : ℕ) → get_or (set (replicate {A = ℕ} 256 0) 0 1) k 0 ≡ connection [] k
unfolding connection
first_alone zero = refl
first_alone (suc k) = zeros_at 255 k

pub returns-clause-product : goal.returns-clause-product
returns-clause-product c = first_alone
