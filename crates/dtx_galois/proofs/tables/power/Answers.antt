use Rattle.std.proofs.Common.{◌-◌, ap, ◌∙◌, arith, get_or}
use Rattle.dtx_galois.specs.declared.tables.TheConstants.{POWERS}
use Rattle.dtx_galois.proofs.TableEntries.{around}
use Rattle.dtx_galois.proofs.PowersLemmas.{power_at}
use Rattle.dtx_galois.proofs.tables.power.Goals as goal
use Rattle.dtx_galois.proofs.tables.power.Goals.{then-exponent-lt-ORDER, else-exponent-lt-ORDER}

pub returns : goal.returns
returns c =
    elim c.if-exponent-lt-ORDER.branch [
      | then-exponent-lt-ORDER w ↦ ap (λ i. get_or POWERS i 0) w.place-is
          ∙ power_at c.args.exponent w.if-exponent-lt-ORDER.true
      | else-exponent-lt-ORDER w ↦ ap (λ i. get_or POWERS i 0) w.place-is
          ∙ power_at (c.args.exponent - 255) (omega arith) ∙ around c.args.exponent w.if-exponent-lt-ORDER.false
    ]
