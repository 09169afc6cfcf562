use Rattle.std.proofs.Common.{◌≡◌, ◌↔◌, ℕ, ◌<◌, [], get_or, pos}
use Rattle.dtx_soft.specs.Bounds.{IsNear}
use Rattle.dtx_soft.proofs.near.far_lanes.Given as goal

abbrev pub invariant-loop-t : goal.invariant-loop-t
invariant-loop-t l = (n : ℕ) → n < 16 → (get_or l.far n 0 ≡ 0)
    ↔ ((t : ℕ) → t < l.t → IsNear (get_or (get_or l.rounds t []) n (pos 0)))
