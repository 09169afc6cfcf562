use Rattle.std.proofs.Common.{◌≡◌, ℕ, ℤ, pos, ◌+◌, ◌%◌, ◌+ℤ◌, ◌≤ℤ◌, get_or, sym, ap}
use Rattle.std.proofs.Common.{◌∙◌, subst, w8, to_z, of_z, arith, rules}
use mir.Val.{SFits}
use Rattle.std.proofs.lemmas.Int.{to_z-of_z}
use Rattle.std.proofs.lemmas.List.{length-set}
use Rattle.dtx_soft.specs.Trace.{IsMoved, nearer_symbol, stand_at}
use Rattle.dtx_soft.proofs.WritesLemmas.{by_entry}
use Rattle.dtx_soft.proofs.trace.move_lanes.Goals as goal

pub loop-n-preserved : goal.loop-n-preserved
loop-n-preserved c =
    let symbol : ℤ = get_or c.args.symbols.now c.loop-n.n (pos 0) in
    let fits : SFits w8 (get_or c.args.symbols.now c.loop-n.n (pos 0)) = search rules in
    let marks : ℕ = get_or c.args.marks.now c.loop-n.n 0 in
    let written : ℤ = to_z w8 (of_z w8 c.nearer.result) in
    let same : written ≡ c.nearer.result = to_z-of_z w8 c.nearer.result (search rules) in
    let stand : c.stand_of-stand.result ≡ stand_at c.args.stands.now c.loop-n.n =
    c.stand_of-stand.ensures ∙ c.loop-n.invariant.left c.loop-n.n (omega arith) in
    let plain : IsMoved c.args.scale symbol marks c.stand_of-stand.result
    (stand_at c.put_state.new.stands c.loop-n.n) written = record {
      q1 = c.put_state.ensures.q1 ∙ ap (λ pair. (pair + c.stand_of-stand.result.q0) % 2) c.pair-pair.ensures.pair;
      q0 = c.put_state.ensures.q0;
      written_is = same ∙ c.nearer.ensures.symbol ∙ ap (λ v. nearer_symbol c.args.scale v c.stand_of-stand.result.q1
          c.pair-pair.result) (to_z-of_z w8 symbol fits) ∙ ap (λ pair. nearer_symbol c.args.scale symbol
          c.stand_of-stand.result.q1 pair) c.pair-pair.ensures.pair;
      from = subst (λ v. pos 0 ≤ℤ (v +ℤ pos 126)) (sym same) c.nearer.ensures.from;
      to = subst (λ v. v ≤ℤ pos 126) (sym same) c.nearer.ensures.to;
      cost = c.put_state.ensures.cost ∙ sym (ap (λ s. s.cost) c.stand_of-stand.ensures);
    } in
    let next : IsMoved c.args.scale symbol marks (stand_at c.args.stands.now c.loop-n.n)
    (stand_at c.put_state.new.stands c.loop-n.n) written =
    subst (λ s. IsMoved c.args.scale symbol marks s (stand_at c.put_state.new.stands c.loop-n.n) written) stand plain in
    record {
      long = length-set c.loop-n.written c.loop-n.n _ ∙ c.loop-n.invariant.long;
      done = λ k l. by_entry (λ k written. IsMoved c.args.scale (get_or c.args.symbols.now k (pos 0))
          (get_or c.args.marks.now k 0) (stand_at c.args.stands.now k) (stand_at c.put_state.new.stands k) written)
          c.loop-n.written c.loop-n.n written (omega (arith, c.loop-n.invariant.long)) next k (pos 0)
          (λ n. subst (λ s. IsMoved c.args.scale (get_or c.args.symbols.now k (pos 0)) (get_or c.args.marks.now k 0)
          (stand_at c.args.stands.now k) s (get_or c.loop-n.written k (pos 0))) (sym (c.put_state.ensures.others k n))
          (c.loop-n.invariant.done k (omega arith)));
      left = λ k l. c.put_state.ensures.others k (λ e. absurd (omega arith)) ∙ c.loop-n.invariant.left k (omega arith);
    }
