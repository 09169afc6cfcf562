use Rattle.std.proofs.Common.{ℕ, ap, sym, ◌∙◌}
use Rattle.dtx_galois.specs.Field.{mul}
use Rattle.dtx_galois.proofs.FieldLemmas.{mul_zero, zero_mul}
use Rattle.dtx_galois.proofs.TableEntries.{product_at}
use Rattle.dtx_galois.proofs.element.Gf.mul.Goals as goal
use Rattle.dtx_galois.proofs.element.Gf.mul.Goals.{then-self-eq0-via-then-self-eq0}
use Rattle.dtx_galois.proofs.element.Gf.mul.Goals.{then-self-eq0-via-else-self-eq0+then-other-eq0}

pub returns-then-self-eq0 : goal.returns-then-self-eq0
returns-then-self-eq0 c =
    elim c.then-self-eq0.branch [
      | then-self-eq0-via-then-self-eq0 w ↦ sym (ap (λ (x : ℕ). mul x c.args.other.0) w.if-self-eq0.true
          ∙ zero_mul c.args.other.0)
      | then-self-eq0-via-else-self-eq0+then-other-eq0 w ↦ sym (ap (mul c.args.self.0) w.if-other-eq0.true
          ∙ mul_zero c.args.self.0)
    ]

pub returns : goal.returns
returns c =
    c.power.ensures
    ∙ product_at c.logarithm.result c.logarithm-2.result c.args.self.0 c.args.other.0 c.logarithm.ensures.power
    c.logarithm-2.ensures.power
