use Rattle.std.proofs.Common.{◌≡◌, pos, ◌+ℤ◌, refl, ap₂, ◌∙◌, arith, rules}
use mir.Syntax.{w16}
use mir.Val.{SFits}
use Rattle.std.specs.Int.{int_min}
use Rattle.std.proofs.lemmas.Int.{ints, to_z-of_z}
use Rattle.dtx_soft.proofs.Starts.{above_read, above_sum, start_is}
use Rattle.dtx_soft.proofs.WrapsLemmas.{read, sum_read, unwrapped}
use Rattle.dtx_soft.proofs.trace.start_of.Goals as goal

pub returns : goal.returns
returns c = start_is c.args.gap (record { q1 = c.is_above-q1.result; q0 = c.chosen.result; cost = 0 })
    (c.args.gap.even +ℤ c.args.gap.across) c.min.result c.min-2.result c.is_above-low.result c.is_above-high.result refl
    (c.min.ensures.value ∙ ap₂ int_min first (to_z-of_z w16 c.args.gap.odd (search rules)))
    (unwrapped w16 int_min c.args.gap.across (pos 0) (search rules) (search rules) c.min-2.ensures.value)
    (above_sum w16 c.args.gap.odd c.args.gap.even c.args.gap.across (search rules) (search rules) (search rules) fits
    c.is_above-low.ensures)
    (above_read w16 (pos 0) c.args.gap.across (search rules) (search rules) c.is_above-high.ensures)
    (above_read w16 c.min-2.result c.min.result (search rules) (search rules) c.is_above-q1.ensures)
    c.chosen.ensures refl
  where
    fits : SFits w16 (c.args.gap.even +ℤ c.args.gap.across)
    fits = omega (arith, ints, c.requires.even, c.requires.across)

    first : read w16 (read w16 c.args.gap.even +ℤ read w16 c.args.gap.across) ≡ c.args.gap.even +ℤ c.args.gap.across
    first = sum_read w16 _ _ c.args.gap.even c.args.gap.across (to_z-of_z w16 c.args.gap.even (search rules))
        (to_z-of_z w16 c.args.gap.across (search rules)) fits
