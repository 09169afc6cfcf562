use Rattle.std.proofs.Common.{◌≡◌, ℕ, pos, ◌+◌, ◌-◌, ◌*◌, ◌%◌, ◌<◌, [], get_or, sym, ap, ◌∙◌, subst, arith}
use Rattle.dtx_pins.specs.Trace.{IsNext, stand_at, turned_place}
use Rattle.dtx_pins.proofs.TracedSteps.{stands_further, stands_within, traced_more, turned_back}
use Rattle.dtx_pins.proofs.forth.trace_segment.Goals as goal

pub trace_all-symbols-requires-clause-stands : goal.trace_all-symbols-requires-clause-stands
trace_all-symbols-requires-clause-stands c e l =
    stands_within (21459 + c.loop-r.r) 21527 (stand_at c.loop-r.stands e) (omega (arith, c.loop-r-test.true))
    (c.loop-r.invariant.stands 21459 e l (c.requires.stands e l))

pub loop-r-preserved : goal.loop-r-preserved
loop-r-preserved c = record {
  traced = λ e l. traced_more c.args.scale (λ r. get_or c.args.heard.now (turned_place turn r e) (pos 0))
      (λ r. get_or (get_or c.args.marks.now r []) e 0) (λ r. get_or c.loop-r.path (turned_place turn r e) (pos 0))
      (λ r. get_or c.write_turned.new.segment (turned_place turn r e) (pos 0)) r (stand_at c.args.stands.now e)
      (stand_at c.loop-r.stands e) (stand_at c.trace_all-symbols.new.stands e)
      (λ k o. c.write_turned.ensures.before (turned_place turn k e) (earlier turn k r e o))
      (c.loop-r.invariant.traced e l) (next e l);
  stands = λ t e l h. stands_further c.args.scale _ (t + r) (t + (r + 1)) _ (stand_at c.loop-r.stands e)
      (stand_at c.trace_all-symbols.new.stands e) _ (omega arith) (c.trace_all-symbols.ensures e l)
      (c.loop-r.invariant.stands t e l h);
}
  where
    turn : ℕ
    turn = c.args.turn

    r : ℕ
    r = c.loop-r.r

    earlier : (turn k r e : ℕ) → k < r → 4 + 12 * k + (e + 12 - 4 * turn) % 12 < 4 + 12 * r
    earlier turn k r e l = omega arith

    written : (e : ℕ) → e < 12
        → get_or c.trace_all-symbols.result e (pos 0)
        ≡ get_or c.write_turned.new.segment (turned_place turn r e) (pos 0)
    written e l =
        sym (c.write_turned.ensures.symbols ((e + 12 - 4 * turn) % 12) (omega arith)
        ∙ ap (λ e. get_or c.trace_all-symbols.result e (pos 0)) (turned_back turn e c.requires.turn l))

    next : (e : ℕ) → e < 12
        → IsNext c.args.scale (get_or c.args.heard.now (turned_place turn r e) (pos 0))
        (get_or (get_or c.args.marks.now r []) e 0) (stand_at c.loop-r.stands e)
        (stand_at c.trace_all-symbols.new.stands e)
        (get_or c.write_turned.new.segment (turned_place turn r e) (pos 0))
    next e l =
        subst (λ v. IsNext c.args.scale v (get_or (get_or c.args.marks.now r []) e 0) (stand_at c.loop-r.stands e)
        (stand_at c.trace_all-symbols.new.stands e)
        (get_or c.write_turned.new.segment (turned_place turn r e) (pos 0))) (c.read_turned.ensures e l)
        (subst (λ mark. IsNext c.args.scale (get_or c.read_turned.result e (pos 0)) mark (stand_at c.loop-r.stands e)
        (stand_at c.trace_all-symbols.new.stands e)
        (get_or c.write_turned.new.segment (turned_place turn r e) (pos 0))) (c.lanes_of.ensures e l)
        (subst (IsNext c.args.scale (get_or c.read_turned.result e (pos 0)) (get_or c.lanes_of.result e 0)
        (stand_at c.loop-r.stands e) (stand_at c.trace_all-symbols.new.stands e)) (written e l)
        (c.trace_all-symbols.ensures e (omega arith))))
