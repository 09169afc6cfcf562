use Rattle.std.proofs.Common.{◌≡◌, ◌≢◌, ℕ, ℤ, pos, ◌+◌, ◌<◌, ◌≤◌, ◌⊎◌, inl, inr, List, get_or, length, slice_set, sym}
use Rattle.std.proofs.Common.{ap, ap₂, ◌∙◌, subst, to_z, of_z, w8, arith, rules}
use mir.Syntax.{w16}
use mir.Val.{SFits}
use Rattle.std.proofs.lemmas.Bool.{cases_eq}
use Rattle.std.proofs.lemmas.Int.{ints, to_z-of_z}
use Rattle.std.proofs.lemmas.List.{get_or-set_same, get_or-set_other}
use Rattle.dtx_soft.specs.Paths.{squared}
use Rattle.dtx_soft.specs.declared.trace.Stands.{Stands}
use Rattle.dtx_soft.specs.Trace.{IsNext, stand_at}
use Rattle.dtx_soft.proofs.trace.trace_lanes.Goals as goal

pub loop-n-preserved : goal.loop-n-preserved
loop-n-preserved c = record {
  done = λ k l. done k l (cases_eq k c.loop-n.n);
  left = λ k l m. (let h = c.loop-n.invariant.left k (omega arith) m in record {
    q1 = h.q1;
    q0 = h.q0;
    written_is = h.written_is;
    from = h.from;
    to = h.to;
    cost = get_or-set_other c.loop-n.stands.cost c.loop-n.n k _ 0 (λ e. absurd (omega arith)) ∙ h.cost;
  });
}
  where
    symbol : ℤ
    symbol = get_or c.args.symbols.now c.loop-n.n (pos 0)

    symbol_fits : SFits w8 (get_or c.args.symbols.now c.loop-n.n (pos 0))
    symbol_fits = search rules

    written : ℤ
    written = get_or c.move_lanes-written.result c.loop-n.n (pos 0)

    written_fits : SFits w8 (get_or c.move_lanes-written.result c.loop-n.n (pos 0))
    written_fits = search rules

    square : c.square.result ≡ squared symbol written
    square = c.square.ensures.square ∙ ap₂ squared (to_z-of_z w8 symbol symbol_fits)
        (ap (λ v. to_z w16 (of_z w16 v)) (to_z-of_z w8 written written_fits)
        ∙ to_z-of_z w16 written (omega (arith, ints, written_fits)))

    long : length c.loop-n.stands.cost ≡ 16
    long = search rules

    costs : List ℕ
    costs = slice_set c.loop-n.stands.cost c.loop-n.n (get_or c.loop-n.stands.cost c.loop-n.n 0 + c.square.result)

    stands : Stands
    stands = record { q1 = c.loop-n.stands.q1; q0 = c.loop-n.stands.q0; cost = costs }

    next : IsNext c.args.scale symbol (get_or c.args.marks.now c.loop-n.n 0) (stand_at c.args.stands.now c.loop-n.n)
        (stand_at stands c.loop-n.n) written
    next =
        let h = c.loop-n.invariant.left c.loop-n.n (omega arith) (omega arith) in record {
          from = omega (arith, ints);
          to = omega (arith, ints);
          q1 = h.q1;
          q0 = h.q0;
          written_is = h.written_is;
          cost = get_or-set_same c.loop-n.stands.cost c.loop-n.n _ 0 (omega (arith, long))
              ∙ ap₂ (λ cost square. cost + square) h.cost square;
          small = subst (λ square. square ≤ 64516) square c.square.ensures.small;
        }

    done : (k : ℕ) → k < c.loop-n.n + 1 → (k ≡ c.loop-n.n) ⊎ (k ≢ c.loop-n.n)
        → IsNext c.args.scale (get_or c.args.symbols.now k (pos 0)) (get_or c.args.marks.now k 0)
        (stand_at c.args.stands.now k) (stand_at stands k) (get_or c.move_lanes-written.result k (pos 0))
    done k l (inl e) =
        subst (λ k. IsNext c.args.scale (get_or c.args.symbols.now k (pos 0)) (get_or c.args.marks.now k 0)
        (stand_at c.args.stands.now k) (stand_at stands k) (get_or c.move_lanes-written.result k (pos 0))) (sym e) next
    done k l (inr n) =
        let h = c.loop-n.invariant.done k (omega arith) in record {
          from = h.from;
          to = h.to;
          q1 = h.q1;
          q0 = h.q0;
          written_is = h.written_is;
          cost = get_or-set_other c.loop-n.stands.cost c.loop-n.n k _ 0 n ∙ h.cost;
          small = h.small;
        }
