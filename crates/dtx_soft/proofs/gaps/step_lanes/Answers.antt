use Rattle.std.proofs.Common.{◌≡◌, ℤ, pos, get_or, sym, ap, ◌∙◌, subst, to_z, of_z, w8, arith, rules}
use Rattle.std.proofs.lemmas.Int.{to_z-of_z}
use Rattle.dtx_soft.specs.Bounds.{IsBounded, IsReached}
use Rattle.dtx_soft.specs.Gaps.{AreSigns, AreSums, gap_of, gaps_of, squares_of}
use Rattle.dtx_soft.specs.Nearest.{IsSquares}
use Rattle.dtx_soft.proofs.ColumnsLemmas.{lane_stepped}
use Rattle.dtx_soft.proofs.GapBounds.{squares_within, sums_bounded}
use Rattle.dtx_soft.proofs.GapSteps.{one_step}
use Rattle.dtx_soft.proofs.gaps.step_lanes.Goals as goal

pub gap_before-before-requires-clause-squares : goal.gap_before-before-requires-clause-squares
gap_before-before-requires-clause-squares g c =
    squares_within g.T.Width.bounds c.args.units.now.scale _ _ g.met.T.Width.wide c.requires.units.scale
    (subst (IsReached g.T.Width.bounds) (sym (to_z-of_z w8 (get_or c.args.symbols.now c.loop-n.n (pos 0)) (search
    rules))) (c.requires.symbols c.loop-n.n (omega arith) (search rules))) c.differ-squares.ensures

pub gap_before-before-requires-clause-bounded : goal.gap_before-before-requires-clause-bounded
gap_before-before-requires-clause-bounded g c = subst (λ gap. IsBounded g.T.Width.bounds (gap_of g.T.Width.value gap))
    (sym (c.lane-gap.ensures c.lane-gap.result.even)) (subst (IsBounded g.T.Width.bounds)
    (sym ((c.loop-n.invariant c.lane-gap.result.even).left c.loop-n.n (omega arith)))
    (c.requires.bounded c.loop-n.n c.lane-gap.result.even (omega arith)))

pub marks_of-requires-clause-squares : goal.marks_of-requires-clause-squares
marks_of-requires-clause-squares g c =
    squares_within g.T.Width.bounds c.args.units.now.scale _ _ g.met.T.Width.wide c.requires.units.scale
    (subst (IsReached g.T.Width.bounds) (sym (to_z-of_z w8 (get_or c.args.symbols.now c.loop-n.n (pos 0)) (search
    rules))) (c.requires.symbols c.loop-n.n (omega arith) (search rules))) c.differ-squares.ensures

pub marks_of-requires-clause-bounded : goal.marks_of-requires-clause-bounded
marks_of-requires-clause-bounded g c = subst (λ gap. IsBounded g.T.Width.bounds (gap_of g.T.Width.value gap))
    (sym (c.lane-gap.ensures c.lane-gap.result.even)) (subst (IsBounded g.T.Width.bounds)
    (sym ((c.loop-n.invariant c.lane-gap.result.even).left c.loop-n.n (omega arith)))
    (c.requires.bounded c.loop-n.n c.lane-gap.result.even (omega arith)))

pub differ-squares-requires-clause-symbol : goal.differ-squares-requires-clause-symbol
differ-squares-requires-clause-symbol g c = grind (arith, to_z-of_z)

pub loop-n-preserved : goal.loop-n-preserved
loop-n-preserved g c other =
    let b = g.T.Width.bounds in
    let value = g.T.Width.value in
    let n = c.loop-n.n in
    let gap : gap_of value c.lane-gap.result ≡ gaps_of value other c.args.gaps.now n =
    ap (gap_of value) (c.lane-gap.ensures other) ∙ (c.loop-n.invariant other).left n (omega arith) in
    let new : gap_of value c.gap_before-before.result ≡ gaps_of value other c.put_lane.new.gaps n =
    ap (gap_of value) (sym (c.put_lane.ensures.written other)) in
    let squares = squares_of value c.differ-squares.result in
    let symbol : ℤ = get_or c.args.symbols.now n (pos 0) in
    let read : to_z w8 (of_z w8 symbol) ≡ symbol = to_z-of_z w8 symbol (search rules) in
    let within = squares_within b c.args.units.now.scale symbol squares g.met.T.Width.wide c.requires.units.scale
    (c.requires.symbols n (omega arith) (search rules))
    (subst (λ v. IsSquares c.args.units.now.scale v squares) read c.differ-squares.ensures) in
    let sums : AreSums squares (gaps_of value other c.args.gaps.now n) (gaps_of value other c.put_lane.new.gaps n) =
    subst (AreSums squares (gaps_of value other c.args.gaps.now n)) new
    (subst (λ gap. AreSums squares gap (gap_of value c.gap_before-before.result)) gap c.gap_before-before.ensures) in
    lane_stepped (IsBounded b) c.args.units.now.scale c.args.symbols.now n (gaps_of value other c.args.gaps.now)
    (gaps_of value other c.loop-n.gaps) (gaps_of value other c.put_lane.new.gaps) c.loop-n.marks c.marks_of.result
    (omega arith) (λ k d. ap (gap_of value) (c.put_lane.ensures.others k other d))
    (sums_bounded b squares _ _ within (c.requires.bounded n other (omega arith)) sums)
    (one_step b c.args.units.now.scale symbol squares _ _ c.marks_of.result g.met.T.Width.wide c.requires.units.scale
    (search rules) (subst (λ v. IsSquares c.args.units.now.scale v squares) read c.differ-squares.ensures) within sums
    (subst (λ gap. AreSigns squares gap c.marks_of.result) gap c.marks_of.ensures)) (c.loop-n.invariant other)

pub returns-clause-bounded : goal.returns-clause-bounded
returns-clause-bounded g c n other l = (c.loop-n.invariant other).small n (omega arith)

pub returns-clause-step : goal.returns-clause-step
returns-clause-step g c n other l = (c.loop-n.invariant other).done n (omega arith)
