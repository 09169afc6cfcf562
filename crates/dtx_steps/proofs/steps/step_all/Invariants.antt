use Rattle.std.proofs.Common.{◌≡◌, ◌+◌, ◌-◌, ◌*◌, ◌≤◌, ℕ, List, length, take, drop}
use Rattle.dtx_engine.specs.Recipe.{IsFed}
use Rattle.dtx_steps.proofs.steps.step_all.Given as goal

abbrev pub invariant-loop-done : goal.invariant-loop-done
invariant-loop-done g l = record {
  within : l.done ≤ l.units;
  rest : drop (l.fn.shape.unit * l.done) l.bytes ≡ drop (l.fn.shape.unit * l.done) l.fn.bytes;
  kept : g.S.Step.recipe l.step ≡ g.S.Step.recipe l.fn.step;
  fed : (given : List ℕ) → length given ≡ l.fn.shape.unit * l.first → g.S.Step.stands l.fn.step given
      → IsFed (g.S.Step.recipe l.fn.step) given (take (l.fn.shape.unit * l.done) l.fn.bytes) (g.S.Step.stands l.step)
      (g.S.Step.holds l.step);
  ready : g.S.Step.is_ready l.step (l.first + l.done) (l.units - l.done);
}

abbrev pub decreases-loop-done : goal.decreases-loop-done
decreases-loop-done g l = l.units - l.done
