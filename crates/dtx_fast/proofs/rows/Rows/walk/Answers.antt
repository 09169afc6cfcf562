use Rattle.std.proofs.Common.{ℕ, ◌∙◌, sym, ap₂, bit_xor, arith, get_or}
use Rattle.std.proofs.lemmas.List.{length-replicate}
use Rattle.dtx_galois.specs.Field.{pow}
use Rattle.dtx_fast.specs.Recurrence.{walked}
use Rattle.dtx_fast.proofs.RowsLemmas.{two_rows, walked_next}
use Rattle.dtx_fast.proofs.StageLemmas.{zeros_at}
use Rattle.dtx_fast.proofs.rows.Rows.walk.Goals as goal

pub loop-k-init : goal.loop-k-init
unfolding walked
loop-k-init g c = record { done = λ q l. zeros_at g.row.W q; long = length-replicate {A = ℕ} g.row.W 0 }

pub loop-k-preserved : goal.loop-k-preserved
loop-k-preserved g c =
    let self = c.args.self.now in
    let k : ℕ = c.loop-k.k in
    let byte : ℕ = get_or c.args.coefficients.now k 0 in
    record {
      done = λ q l. c.add_rows.ensures.sums q l ∙ ap₂ bit_xor (c.loop-k.invariant.done q l)
          (two_rows g.row.R k byte q self.base.0 _ (omega (arith, c.type_inv.coefficients k)) (omega arith)
          (λ j m. self.hold j q m l))
          ∙ sym (walked_next k (pow self.base.0 q) (λ i. get_or c.args.coefficients.now i 0));
      long = c.add_rows.ensures.long;
    }
