use Rattle.std.proofs.Common.{◌≡◌, pos, negsuc, ◌-ℤ◌, ◌*ℤ◌, ap, ap₂, ◌∙◌, arith, rules, to_z, of_z, w8, w64}
use Rattle.std.specs.Int.{int_max, int_min}
use Rattle.std.proofs.lemmas.Int.{clamps, ints, to_z-of_z}
use Rattle.dtx_level.specs.Levelled.{levelled_symbol, nearest}
use Rattle.dtx_level.proofs.levels.levelled.Goals as goal

pub returns : goal.returns
unfolding levelled_symbol
returns c =
    let next : c.nearest.result ≡ nearest c.numerator.result c.args.gain =
    first_of (search rules, grind (arith, to_z-of_z), grind (arith, ints, to_z-of_z)) in
    let read : to_z w64 (of_z w64 c.nearest.result) ≡ c.nearest.result =
    to_z-of_z w64 c.nearest.result (search rules) in
    let same : to_z w8 (of_z w8 (to_z w64 (of_z w64 c.clamp.result))) ≡ c.clamp.result =
    omega (arith, ints, clamps, c.clamp.ensures.value) in
    same ∙ c.clamp.ensures.value
    ∙ ap (λ x. int_max (negsuc 126) (int_min x (pos 127)))
    (read ∙ next ∙ ap (λ x. nearest x c.args.gain) c.numerator.ensures.value
    ∙ ap₂ (λ s o. nearest (pos 40 *ℤ (pos 132612 *ℤ s -ℤ o)) c.args.gain)
    (to_z-of_z w64 c.args.symbol c.ranges.symbol) (to_z-of_z w64 c.args.constant c.ranges.constant))
