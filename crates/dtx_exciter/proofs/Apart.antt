-- Two transmitters in one stretch, and its first line.
use Rattle.std.proofs.Common.{◌≡◌, ℕ, ◌+◌, ◌-◌, ◌*◌, ◌/◌, ◌%◌, ◌≤◌, Some, List, [], ◌∷◌, ◌++◌, length, map, drop, refl}
use Rattle.std.proofs.Common.{ap, subst, ◌∙◌, arith}
use Rattle.std.specs.Prelude.{slice_range, ℤ, pos, ◌-ℤ◌, ◌*ℤ◌}
use Rattle.std.proofs.lemmas.List.{drop_at}
use Rattle.dtx_clock.specs.Clock.{grains_of, DifferBy}
use Rattle.dtx_clock.proofs.MomentsLemmas.{moments_differ}
use Rattle.dtx_ops.specs.declared.fields.Ops.{Ops}
use Rattle.dtx_exciter.specs.Order.{Order, counting_order}
use Rattle.dtx_exciter.specs.Packets.{readings}
use Rattle.dtx_exciter.specs.Emission.{emission}
use Rattle.dtx_exciter.specs.Lockstep.{IsFeed, locked_from, IsStretch, stretch}
use Rattle.dtx_exciter.specs.Log.{preset}
use Rattle.dtx_exciter.specs.Stretch.{before_stretch, order_moment, preset_line, orders_in, stretch_lines}
use Rattle.dtx_exciter.specs.Stretch.{IsApart, AreApart}
use Rattle.dtx_exciter.proofs.LockstepIsLemmas.{lockstep_is}

-- ---- segments

-- those from the stretch on
pub from_stretch : (a d : ℕ) (z : ℤ) (feed earlier : List (List ℕ)) (mark end k : ℕ) → IsFeed a d z feed
    → IsStretch a feed (locked_from earlier mark) mark end k
    → drop (length (before_stretch a d earlier feed mark k)) (emission a d (earlier ++ slice_range feed mark end))
    ≡ stretch feed k end
from_stretch a d z feed earlier mark end k f s =
    ap (drop (length (before_stretch a d earlier feed mark k))) (lockstep_is a d z feed earlier mark end k f s)
    ∙ drop_at (before_stretch a d earlier feed mark k) (stretch feed k end)
    (length (before_stretch a d earlier feed mark k)) refl

-- ---- moments

whole_grains : (n : ℕ) → n ≡ n / 1539 * 1539 + n % 1539
whole_grains n = omega arith

line_apart : (y z : ℤ) (s r k : ℕ) (order : Order)
    → IsApart (y -ℤ z) (preset_line y s k order) (preset_line z r k order)
line_apart y z s r k order =
    let m : ℕ = grains_of order.ops.stamp order.ops.max_delay y (order.place % 624) in
    let n : ℕ = grains_of order.ops.stamp order.ops.max_delay z (order.place % 624) in (
      refl,
      refl,
      subst (λ (i : ℕ). DifferBy i (n / 1539 * 1539 + n % 1539) ((y -ℤ z) *ℤ pos 1539)) (whole_grains m)
          (subst (λ (i : ℕ). DifferBy m i ((y -ℤ z) *ℤ pos 1539)) (whole_grains n) (grind (arith, moments_differ))),
    )

all_apart : (y z : ℤ) (s r k : ℕ) (orders : List Order)
    → AreApart (y -ℤ z) orders (map (preset_line y s k) orders) (map (preset_line z r k) orders)
all_apart y z s r k [] = tt
all_apart y z s r k (order ∷ orders) = (line_apart y z s r k order, all_apart y z s r k orders)

pub lines_apart : (y z : ℤ) (s r : ℕ) (feed : List (List ℕ)) (end k : ℕ)
    → AreApart (y -ℤ z) (orders_in feed k end) (stretch_lines y s feed k end) (stretch_lines z r feed k end)
unfolding stretch_lines
lines_apart y z s r feed end k = all_apart y z s r k (orders_in feed k end)

-- ---- the first line

pub first_is : (z : ℤ) (s : ℕ) (feed : List (List ℕ)) (end k : ℕ) (ops : Ops) → k + 4 ≤ end
    → counting_order (readings feed) k ≡ Some ops → stretch_lines z s feed k end
    ≡ preset s ops.frame (k % 624) (order_moment z (record { place = k; ops = ops })).tick
    (order_moment z (record { place = k; ops = ops })).grain ∷ map (preset_line z s k) (orders_in feed (k + 1) end)
unfolding stretch_lines orders_in
first_is z s feed end k ops l h = grind arith
