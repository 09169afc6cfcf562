use Rattle.std.proofs.Common.{◌≡◌, ℕ, Bool, bit_xor, refl, sym, ap, ap₂, ◌∙◌, arith, get_or}
use Rattle.dtx_galois.specs.Field.{mul}
use Rattle.dtx_laws.specs.Locator.{is_marked, power_at, others, weight, without}
use Rattle.dtx_laws.proofs.Turns.{rest_yes, rest_no, product_yes, product_no, error_made}
use Rattle.dtx_laws.proofs.correcting.values.error_at.Goals as goal
use Rattle.dtx_laws.proofs.correcting.values.error_at.Goals.{then-is_other, else-is_other}

pub loop-other-init : goal.loop-other-init
unfolding others weight without
loop-other-init c = record { rest = λ i l. refl; weight = refl; own = c.power_at-own.ensures }

pub loop-other-preserved : goal.loop-other-preserved
loop-other-preserved c =
    let n : ℕ = c.args.len in
    let p : ℕ = c.args.place in
    let q : ℕ = c.loop-other.other in
    let mark : ℕ → Bool = is_marked c.args.marks.now in
    let s : ℕ → ℕ = λ i. get_or c.args.syndromes.now i 0 in
    elim c.if-is_other.branch [
      | then-is_other w ↦
          let t = sym c.is_other.ensures ∙ w.if-is_other.true in
          record {
            rest = λ i l. ap (λ xs. get_or xs i 0) w.rest-is
                ∙ rest_yes n p q c.args.count w.power_at-power.result.0 mark s w.cancel.new.sequence c.loop-other.rest t
                w.power_at-power.ensures c.loop-other.invariant.rest w.cancel.ensures.values i l;
            weight = ap (λ x. x.0) w.weight-is ∙ w.mul-weight.ensures
                ∙ ap₂ mul (w.add.ensures ∙ ap (λ (x : ℕ). bit_xor x w.power_at-power.result.0) c.power_at-own.ensures)
                refl
                ∙ product_yes n p q c.loop-other.weight.0 mark
                (power_at n p) w.power_at-power.result.0 t w.power_at-power.ensures c.loop-other.invariant.weight;
            own = c.loop-other.invariant.own;
          }
      | else-is_other w ↦
          let t = sym c.is_other.ensures ∙ w.if-is_other.false in
          record {
            rest = λ i l. ap (λ xs. get_or xs i 0) w.rest-is
                ∙ rest_no n p q c.args.count mark s c.loop-other.rest t c.loop-other.invariant.rest i l;
            weight = ap (λ x. x.0) w.weight-is
                ∙ product_no n p q c.loop-other.weight.0 mark (power_at n p) t c.loop-other.invariant.weight;
            own = c.loop-other.invariant.own;
          }
    ]

pub returns : goal.returns
returns c l =
    let e : c.loop-other.other ≡ c.args.len = omega arith in
    c.mul.ensures ∙ ap (mul (get_or c.loop-other.rest 0 0)) c.pow.ensures
    ∙ error_made c.args.len c.args.place c.loop-other.other c.args.count (is_marked c.args.marks.now)
    (λ i. get_or c.args.syndromes.now i 0) c.loop-other.rest c.loop-other.weight.0 e c.loop-other.invariant.rest
    c.loop-other.invariant.weight l
