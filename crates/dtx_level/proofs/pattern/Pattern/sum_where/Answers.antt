use Rattle.std.proofs.Common.{◌≡◌, ◌+◌, ◌+ℤ◌, cond, pos, get_or, refl, sym, ap, ap₂, ◌∙◌, arith, rules, to_z, of_z, w8}
use Rattle.std.proofs.Common.{w64}
use Rattle.std.proofs.lemmas.Int.{ints, to_z-of_z}
use Rattle.dtx_acquire.specs.Agreement.{are_unlike, is_plus, sync_sign}
use Rattle.dtx_level.specs.Shown.{counted_at, sum_where}
use Rattle.dtx_level.proofs.Sums.{sum_more}
use Rattle.dtx_level.proofs.pattern.Pattern.sum_where.Goals as goal

pub loop-i-init : goal.loop-i-init
unfolding sum_where
loop-i-init c = record { few = omega arith; sum = refl; small = omega arith }

pub loop-i-preserved : goal.loop-i-preserved
unfolding counted_at sync_sign
loop-i-preserved c =
    let sync : to_z w8 (of_z w8 (get_or c.args.self.now.sync c.loop-i.i (pos 0)))
    ≡ get_or c.args.self.now.sync c.loop-i.i (pos 0) =
    to_z-of_z w8 (get_or c.args.self.now.sync c.loop-i.i (pos 0)) (search rules) in
    let symbol : to_z w8 (of_z w8 (get_or c.args.symbols.now (c.args.place + c.loop-i.i) (pos 0)))
    ≡ get_or c.args.symbols.now (c.args.place + c.loop-i.i) (pos 0) =
    to_z-of_z w8 (get_or c.args.symbols.now (c.args.place + c.loop-i.i) (pos 0)) (search rules) in
    let new : to_z w64 (of_z w64 (to_z w64 c.loop-i.sum-bits +ℤ to_z w64 (of_z w64 c.counted-sum.result)))
    ≡ to_z w64 c.loop-i.sum-bits +ℤ c.counted-sum.result =
    omega (arith, ints, c.loop-i.invariant.small, c.counted-sum.ensures.small, c.loop-i-test.true) in
    let value : c.counted-sum.result ≡ counted_at c.args.plus c.args.symbols.now c.args.place c.loop-i.i =
    c.counted-sum.ensures.value
    ∙ ap₂ (λ b s. cond (are_unlike b c.args.plus) (pos 0) s)
    (c.is_plus.ensures
    ∙ ap is_plus (sync ∙ c.args.self.now.is c.loop-i.i (omega (arith, c.loop-i-test.true)))) symbol in
    record {
      few = omega (arith, c.loop-i-test.true);
      sum = new ∙ ap₂ (λ a b. a +ℤ b) c.loop-i.invariant.sum value
          ∙ sym (sum_more c.args.plus c.args.symbols.now c.args.place c.loop-i.i);
      small = omega (arith, ints, c.loop-i.invariant.small, c.counted-sum.ensures.small, c.loop-i-test.true);
    }
