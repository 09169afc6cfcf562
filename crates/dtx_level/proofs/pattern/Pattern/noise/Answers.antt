use Rattle.std.proofs.Common.{◌≡◌, ◌+◌, ◌*◌, ◌-ℤ◌, ◌*ℤ◌, nat_abs, pos, get_or, refl, sym, ap₂, ◌∙◌, arith, rules}
use Rattle.std.proofs.Common.{to_z, of_z, w8}
use Rattle.std.proofs.lemmas.Int.{to_z-of_z}
use Rattle.dtx_level.specs.Measures.{noise, square_at}
use Rattle.dtx_level.proofs.Sums.{noise_more}
use Rattle.dtx_level.proofs.pattern.Pattern.noise.Goals as goal

pub loop-i-init : goal.loop-i-init
unfolding noise
loop-i-init c = record { few = omega arith; sum = refl; small = omega arith }

pub loop-i-preserved : goal.loop-i-preserved
unfolding square_at
loop-i-preserved c =
    let sync : to_z w8 (of_z w8 (get_or c.args.self.now.sync c.loop-i.i (pos 0)))
    ≡ get_or c.args.self.now.sync c.loop-i.i (pos 0) =
    to_z-of_z w8 (get_or c.args.self.now.sync c.loop-i.i (pos 0)) (search rules) in
    let symbol : to_z w8 (of_z w8 (get_or c.args.segment.now c.loop-i.i (pos 0)))
    ≡ get_or c.args.segment.now c.loop-i.i (pos 0) =
    to_z-of_z w8 (get_or c.args.segment.now c.loop-i.i (pos 0)) (search rules) in
    record {
      few = omega (arith, c.loop-i-test.true);
      sum = ap₂ (λ a b. a + b) c.loop-i.invariant.sum (c.square-sum.ensures.value
          ∙ ap₂ (λ x y. nat_abs (x -ℤ pos 8 *ℤ y) * nat_abs (x -ℤ pos 8 *ℤ y)) symbol
          (sync ∙ c.args.self.now.is c.loop-i.i (omega (arith, c.loop-i-test.true))))
          ∙ sym (noise_more c.args.segment.now c.loop-i.i);
      small = omega (arith, c.loop-i.invariant.small, c.square-sum.ensures.small);
    }
