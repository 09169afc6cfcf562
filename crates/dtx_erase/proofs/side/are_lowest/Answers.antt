use Rattle.std.proofs.Common.{◌≡◌, ℕ, IsTrue, replicate, subst}
use Rattle.dtx_erase.proofs.side.are_lowest.Goals as goal

pub returns : goal.returns
returns c = subst (λ (n : ℕ). (IsTrue c.are_zero.result → c.args.levels.now ≡ replicate {A = ℕ} n 0)
    × (c.args.levels.now ≡ replicate {A = ℕ} n 0 → IsTrue c.are_zero.result)) c.told-levels c.are_zero.ensures
