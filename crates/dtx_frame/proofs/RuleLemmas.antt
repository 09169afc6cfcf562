-- The rule that each coder keeps within a segment: Z0[p] = Z1[p - 12] + Z0[p - 24].
use Rattle.std.proofs.Common.{◌≡◌, ℕ, ◌+◌, ◌-◌, ◌*◌, ◌/◌, ◌%◌, ◌<◌, ◌≤◌, List, get_or, ap, ap₂, ◌∙◌, arith}
use Rattle.dtx_trellis.specs.Trellis.{State, z2, z0, level, state_of, groups, coder_at, higher, lower}
use Rattle.dtx_trellis.specs.Groups.{level_at}
use Rattle.dtx_trellis.proofs.StepsLemmas.{z0_next}
use Rattle.dtx_slice.proofs.InverseLemmas.{level_z1, lower_bit}

level_z0 : (q : State) (a b : List ℕ) (t : ℕ) → level q a b t % 2 ≡ z0 q b t
unfolding level z0
level_z0 q a b t = omega arith

level_small : (q : State) (a b : List ℕ) (t : ℕ) → get_or b t 0 < 2 → level q a b t < 8
unfolding level z2 z0
level_small q a b t l = omega arith

pub level_at_small : (s d : ℕ) (states bytes : List ℕ) → d < 3312 * groups bytes → level_at s states bytes d < 8
unfolding level_at
level_at_small s d states bytes l = grind (arith, level_small, lower_bit)

same_coder : (s n p : ℕ) → 12 ≤ p → p < 828 → coder_at s (828 * n + (p - 12)) ≡ coder_at s (828 * n + p)
unfolding coder_at
same_coder s n p k l = grind arith

-- within segment n of whole groups, from any states
pub rule : (s n p : ℕ) (states bytes : List ℕ) → n < 4 * groups bytes → 24 ≤ p → p < 828
    → level_at s states bytes (828 * n + p) % 2 ≡
    (level_at s states bytes (828 * n + (p - 12)) / 2 % 2 + level_at s states bytes (828 * n + (p - 24)) % 2) % 2
unfolding level_at
rule s n p states bytes h k l =
    let c1 : coder_at s (828 * n + (p - 12)) ≡ coder_at s (828 * n + p) = same_coder s n p (omega arith) l in
    let c2 : coder_at s (828 * n + (p - 24)) ≡ coder_at s (828 * n + p) =
    ap (λ x. coder_at s (828 * n + x)) (minus p k) ∙ same_coder s n (p - 12) (omega arith) (omega arith) ∙ c1 in
    let t0 : (828 * n + p) / 12 ≡ (828 * n + (p - 24)) / 12 + 2 = omega arith in
    let t1 : (828 * n + (p - 12)) / 12 ≡ (828 * n + (p - 24)) / 12 + 1 = omega arith in
    level_z0 (state_of (get_or states (coder_at s (828 * n + p)) 0)) (higher s bytes (coder_at s (828 * n + p)))
    (lower s bytes (coder_at s (828 * n + p))) ((828 * n + p) / 12)
    ∙ ap (z0 (state_of (get_or states (coder_at s (828 * n + p)) 0)) (lower s bytes (coder_at s (828 * n + p)))) t0
    ∙ z0_next (state_of (get_or states (coder_at s (828 * n + p)) 0)) (lower s bytes (coder_at s (828 * n + p)))
    ((828 * n + (p - 24)) / 12) ∙ ap₂ (λ x y. (x + y) % 2) (grind (arith, level_z1, lower_bit))
    (grind (arith, level_z0))
  where
    minus : (p : ℕ) → 24 ≤ p → p - 24 ≡ p - 12 - 12
    minus p k = omega arith
