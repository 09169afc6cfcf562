use Rattle.std.proofs.Common.{ℕ, Bool, refl, ap, ◌∙◌, get_or, length}
use Rattle.dtx_laws.specs.Locator.{others, without, is_marked}
use Rattle.dtx_erase.proofs.Cancelled.{rest_yes, rest_no}
use Rattle.dtx_erase.proofs.marks.cancelled.Goals as goal
use Rattle.dtx_erase.proofs.marks.cancelled.Goals.{then-marks-place, else-marks-place}

pub loop-place-init : goal.loop-place-init
unfolding others without
loop-place-init c = record { rest = λ i l. refl; long = c.told-syndromes }

pub loop-place-preserved : goal.loop-place-preserved
loop-place-preserved c =
    let n : ℕ = length c.args.marks.now in
    let q : ℕ = c.loop-place.place in
    let mark : ℕ → Bool = is_marked c.args.marks.now in
    let s : ℕ → ℕ = λ i. get_or c.args.syndromes.now i 0 in
    elim c.if-marks-place.branch [
      | then-marks-place w ↦
          record {
            rest = λ i l. ap (λ xs. get_or xs i 0) w.rest-is
                ∙ rest_yes n q c.args.count w.power_at.result.0 mark s w.cancel.new.sequence c.loop-place.rest
                c.loop-place-test.true w.if-marks-place.true w.power_at.ensures c.loop-place.invariant.rest
                w.cancel.ensures.values i l;
            long = ap length w.rest-is ∙ w.cancel.ensures.long;
          }
      | else-marks-place w ↦
          record {
            rest = λ i l. ap (λ xs. get_or xs i 0) w.rest-is
                ∙ rest_no n q c.args.count mark s c.loop-place.rest c.loop-place-test.true w.if-marks-place.false
                c.loop-place.invariant.rest i l;
            long = ap length w.rest-is ∙ c.loop-place.invariant.long;
          }
    ]
