use Rattle.std.proofs.Common.{◌≡◌, pos, true, false, neg_ℤ, sym, ap, ◌∙◌, arith, rules, to_z, of_z, w64}
use Rattle.std.specs.Prelude.{int_lt}
use Rattle.std.proofs.lemmas.Bool.{cond-true, cond-false}
use Rattle.std.proofs.lemmas.Int.{ints, to_z-of_z}
use Rattle.dtx_level.specs.Levelled.{nearest, next_whole}
use Rattle.dtx_level.proofs.levels.nearest.Goals as goal

pub returns-then-gain-lt0 : goal.returns-then-gain-lt0
unfolding nearest
returns-then-gain-lt0 c =
    let same : to_z w64 (of_z w64 c.args.gain) ≡ c.args.gain = to_z-of_z w64 c.args.gain c.ranges.gain in
    let below : int_lt c.args.gain (pos 0) ≡ true =
    ap (λ x. int_lt x (pos 0)) (sym same) ∙ c.if-gain-lt0.true in
    let next : to_z w64 (of_z w64 c.next_whole.result) ≡ next_whole (neg_ℤ c.args.number) (neg_ℤ c.args.gain) =
    first_of (search rules, grind (arith, to_z-of_z), grind (arith, ints, to_z-of_z)) in
    next
    ∙ sym (cond-true (int_lt c.args.gain (pos 0)) (next_whole (neg_ℤ c.args.number) (neg_ℤ c.args.gain))
    (next_whole c.args.number c.args.gain) below)

pub returns-else-gain-lt0 : goal.returns-else-gain-lt0
unfolding nearest
returns-else-gain-lt0 c =
    let same : to_z w64 (of_z w64 c.args.gain) ≡ c.args.gain = to_z-of_z w64 c.args.gain c.ranges.gain in
    let below : int_lt c.args.gain (pos 0) ≡ false =
    ap (λ x. int_lt x (pos 0)) (sym same) ∙ c.if-gain-lt0.false in
    let next : to_z w64 (of_z w64 c.next_whole-else-gain-lt0.result) ≡ next_whole c.args.number c.args.gain =
    first_of (search rules, grind (arith, to_z-of_z), grind (arith, ints, to_z-of_z)) in
    next
    ∙ sym (cond-false (int_lt c.args.gain (pos 0)) (next_whole (neg_ℤ c.args.number) (neg_ℤ c.args.gain))
    (next_whole c.args.number c.args.gain) below)
