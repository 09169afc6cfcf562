use Rattle.std.proofs.Common.{ℕ, ap, sym, ◌∙◌, arith}
use Rattle.dtx_galois.specs.Field.{pow}
use Rattle.dtx_galois.proofs.PowersLemmas.{zero_pow}
use Rattle.dtx_galois.proofs.TableEntries.{power_of}
use Rattle.dtx_galois.proofs.element.Gf.pow.Goals as goal

pub returns-then-times-eq0 : goal.returns-then-times-eq0
unfolding pow
returns-then-times-eq0 c = sym (ap (pow c.args.self.0) c.if-times-eq0.true)

pub returns-then-self-eq0 : goal.returns-then-self-eq0
returns-then-self-eq0 c = c.if-self-eq0.true ∙ sym (ap (λ (x : ℕ). pow x c.args.times) c.if-self-eq0.true
    ∙ zero_pow c.args.times (omega arith))

pub returns : goal.returns
returns c = c.power.ensures ∙ power_of c.logarithm.result c.args.self.0 c.args.times c.logarithm.ensures.power
