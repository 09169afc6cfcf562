use Rattle.std.proofs.Common.{◌≡◌, ◌↔◌, get_or, pos, ◌∙◌, arith}
use Rattle.std.proofs.lemmas.Int.{to_z-of_z}
use Rattle.std.proofs.lemmas.List.{get_or-set_other, length-set}
use Rattle.dtx_soft.specs.Bounds.{IsNear}
use Rattle.dtx_soft.proofs.WritesLemmas.{by_entry}
use Rattle.dtx_soft.proofs.near.add_far.Goals as goal

pub loop-n-preserved : goal.loop-n-preserved
loop-n-preserved c = record {
  long = length-set c.loop-n.far c.loop-n.n c.one_more.result ∙ c.loop-n.invariant.long;
  done = λ k l. by_entry (λ k count. (count ≡ 0)
      ↔ ((get_or c.args.far.now k 0 ≡ 0) × IsNear (get_or c.args.symbols.now k (pos 0)))) c.loop-n.far c.loop-n.n
      c.one_more.result (omega (arith, c.loop-n.invariant.long)) here k 0
      (λ n. c.loop-n.invariant.done k (omega arith));
  left = λ k l. get_or-set_other c.loop-n.far c.loop-n.n k c.one_more.result 0 (λ e. absurd (omega arith))
      ∙ c.loop-n.invariant.left k (omega arith);
}
  where
    here : (c.one_more.result ≡ 0)
        ↔ ((get_or c.args.far.now c.loop-n.n 0 ≡ 0) × IsNear (get_or c.args.symbols.now c.loop-n.n (pos 0)))
    here = grind (arith, to_z-of_z)
