use Rattle.std.proofs.Common.{◌≡◌, ℕ, ◌+◌, Bool, true, false, List, length, refl, sym, ap, ◌∙◌, ◌∷◌, arith, get_or}
use Rattle.dtx_laws.specs.Locator.{others, is_marked}
use Rattle.dtx_fast.specs.Recurrence.{connection}
use Rattle.dtx_erase.proofs.Marked.{others_by}
use Rattle.dtx_erase.proofs.Quotients.{product_more}
use Rattle.dtx_erase.proofs.values.product_of.Goals as goal
use Rattle.dtx_erase.proofs.values.product_of.Goals.{then-suspects-place, else-suspects-place}

pub loop-place-init : goal.loop-place-init
unfolding others
loop-place-init c = record {
  degree = refl;
  product = c.one-coefficients.ensures.product;
  few = omega arith;
  long = c.one-coefficients.ensures.long;
}

pub loop-place-preserved : goal.loop-place-preserved
loop-place-preserved c =
    let n : ℕ = c.args.len in
    let q : ℕ = c.loop-place.place in
    let mark : ℕ → Bool = is_marked c.args.suspects.now in
    let ys : List ℕ = others n mark n q in
    elim c.if-suspects-place.branch [
      | then-suspects-place w ↦
          let x : ℕ = w.power_at.result.0 in
          let more : others n mark n (q + 1) ≡ x ∷ ys =
          others_by n q mark true c.loop-place-test.true w.if-suspects-place.true
          ∙ ap (λ y. y ∷ others n mark n q) (sym w.power_at.ensures) in
          record {
            degree = omega (arith, w.degree-is, c.loop-place.invariant.degree, ap length more);
            product = λ k. ap (λ xs. get_or xs k 0) w.coefficients-is
                ∙ product_more x c.loop-place.degree ys c.loop-place.coefficients w.multiply.new.coefficients
                c.loop-place.invariant.degree c.loop-place.invariant.product w.multiply.ensures.first
                w.multiply.ensures.next w.multiply.ensures.behind k
                ∙ sym (ap (λ zs. connection zs k) more);
            few = omega (arith, w.degree-is, c.loop-place.invariant.few);
            long = ap length w.coefficients-is ∙ w.multiply.ensures.long;
          }
      | else-suspects-place w ↦
          let same : others n mark n (q + 1) ≡ ys =
          others_by n q mark false c.loop-place-test.true w.if-suspects-place.false in
          record {
            degree = w.degree-is ∙ c.loop-place.invariant.degree ∙ sym (ap length same);
            product = λ k. ap (λ xs. get_or xs k 0) w.coefficients-is ∙ c.loop-place.invariant.product k
                ∙ sym (ap (λ zs. connection zs k) same);
            few = omega (arith, w.degree-is, c.loop-place.invariant.few);
            long = ap length w.coefficients-is ∙ c.loop-place.invariant.long;
          }
    ]
