use Rattle.std.proofs.Common.{◌≡◌, ℕ, pos, ◌-◌, ◌<◌, get_or, replicate, ap, ◌∙◌, subst, arith}
use Rattle.std.proofs.lemmas.List.{get_or-replicate, length-set}
use Rattle.dtx_soft.specs.Gaps.{AreWalked, gaps_of}
use Rattle.dtx_soft.proofs.ColumnsLemmas.{none_walked, one_walked}
use Rattle.dtx_soft.proofs.GapBounds.{none_bounded}
use Rattle.dtx_soft.proofs.gaps.backward.Goals as goal

pub loop-t-init : goal.loop-t-init
loop-t-init g c = record {
  room = c.requires.room;
  bounded = λ n other l. none_bounded g.T.Width.bounds _ (none n other l) (none n other l) (none n other l);
  walked = λ other. none_walked c.args.scale c.args.rounds.now _ c.args.marks.now (λ n. none n other)
      (λ n. none n other) (λ n. none n other);
}
  where
    none : (n : ℕ) (other : g.row.T.Denot) → n < 16
        → g.T.Width.value (get_or (replicate 16 c.number-none.result) n other) ≡ pos 0
    none n other l = ap g.T.Width.value (get_or-replicate 16 n c.number-none.result other l) ∙ c.number-none.ensures

pub step_lanes-requires : goal.step_lanes-requires
step_lanes-requires g c = grind (arith, c.requires.symbols)

pub loop-t-preserved : goal.loop-t-preserved
loop-t-preserved g c = record {
  room = length-set c.loop-t.marks (c.loop-t.t - 1) c.step_lanes.result ∙ c.loop-t.invariant.room;
  bounded = c.step_lanes.ensures.bounded;
  walked = λ other. one_walked c.args.scale c.units_of-units.result.scale (c.loop-t.t - 1) c.loop-t.t c.args.rounds.now
      (gaps_of g.T.Width.value other c.loop-t.gaps) (gaps_of g.T.Width.value other c.step_lanes.new.gaps) c.loop-t.marks
      c.step_lanes.result c.units_of-units.ensures.scale c.requires.small (omega arith) (omega arith)
      c.loop-t.invariant.room (λ n l. c.step_lanes.ensures.step n other l) (c.loop-t.invariant.walked other);
}

pub returns-clause-walked : goal.returns-clause-walked
returns-clause-walked g c other = subst (λ t. AreWalked c.args.scale t c.args.rounds.now
    (gaps_of g.T.Width.value other c.loop-t.gaps) c.loop-t.marks) (omega arith) (c.loop-t.invariant.walked other)
