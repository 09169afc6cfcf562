use Rattle.std.proofs.Common.{◌≡◌, ℕ, ◌+◌, ◌-◌, ◌*◌, ◌/◌, ◌%◌, ◌^◌, ◌<◌, ◌⊎◌, inl, inr, get_or, subst, arith}
use Rattle.dtx_soft.specs.Paths.{next_state}
use Rattle.dtx_soft.specs.Nearest.{IsTaken}
use Rattle.dtx_soft.proofs.WritesLemmas.{four}
use Rattle.dtx_soft.proofs.Steps.{bit_taken}
use Rattle.dtx_soft.proofs.walk.taken.Goals as goal

is_bit : {P Q : Type 0} {n : ℕ} → (P × (n ≡ 1)) ⊎ (Q × (n ≡ 0)) → n < 2
is_bit (inl h) = omega (arith, h.1)
is_bit (inr h) = omega (arith, h.1)

pub returns : goal.returns
unfolding next_state
returns c =
    let bits : ℕ = c.is_less-b.result + 2 * c.is_less-d.result + 4 * c.is_less-a.result + 8 * c.is_less-c.result in
    let a : c.is_less-a.result < 2 = is_bit c.is_less-a.ensures in
    let b : c.is_less-b.result < 2 = is_bit c.is_less-b.ensures in
    let d : c.is_less-c.result < 2 = is_bit c.is_less-c.ensures in
    let e : c.is_less-d.result < 2 = is_bit c.is_less-d.ensures in
    four (λ s. IsTaken c.args.row.now c.args.behind.now s (bits / 2 ^ (2 * (1 - s % 2) + s / 2) % 2))
    (subst (IsTaken c.args.row.now c.args.behind.now 0) (omega (arith, a, b, d, e))
    (bit_taken c.args.row.now c.args.behind.now 0 (get_or c.args.row.now.tie_breaks 0 0) c.is_less-a.result
    (c.requires.tie_breaks 0 (omega arith)) c.is_less-a.ensures))
    (subst (IsTaken c.args.row.now c.args.behind.now 1) (omega (arith, a, b, d, e))
    (bit_taken c.args.row.now c.args.behind.now 1 (get_or c.args.row.now.tie_breaks 0 0) c.is_less-b.result
    (c.requires.tie_breaks 0 (omega arith)) c.is_less-b.ensures))
    (subst (IsTaken c.args.row.now c.args.behind.now 2) (omega (arith, a, b, d, e))
    (bit_taken c.args.row.now c.args.behind.now 2 (get_or c.args.row.now.tie_breaks 1 0) c.is_less-c.result
    (c.requires.tie_breaks 1 (omega arith)) c.is_less-c.ensures))
    (subst (IsTaken c.args.row.now c.args.behind.now 3) (omega (arith, a, b, d, e))
    (bit_taken c.args.row.now c.args.behind.now 3 (get_or c.args.row.now.tie_breaks 1 0) c.is_less-d.result
    (c.requires.tie_breaks 1 (omega arith)) c.is_less-d.ensures))
