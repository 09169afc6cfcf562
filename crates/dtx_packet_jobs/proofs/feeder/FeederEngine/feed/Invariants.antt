use Rattle.std.proofs.Common.{◌≡◌, ◌+◌, ◌-◌, ◌*◌, ◌/◌, ◌%◌, ◌<◌, ◌≤◌, List, ℕ, length, take, drop}
use Rattle.dtx_engine.specs.Made.{only}
use Rattle.dtx_engine.specs.Recipe.{IsFed}
use Rattle.dtx_recipes.specs.Adapt.{feeding}
use Rattle.dtx_packet_jobs.specs.Feeding.{HasFed, IsCounted}
use Rattle.dtx_packet_jobs.proofs.feeder.FeederEngine.feed.Given as goal

abbrev pub invariant-loop-done : goal.invariant-loop-done
invariant-loop-done l = record {
  within : l.done ≤ length l.fn.bytes;
  whole : l.done % 188 ≡ 0;
  groups : l.done < length l.fn.bytes → l.self.count % 4 ≡ 0;
  counted : IsCounted l.self;
  count : l.self.count ≡ l._first + l.done / 188;
  plan : l.self.plan ≡ l.fn.self.plan;
  rest : drop l.done l.bytes ≡ drop l.done l.fn.bytes;
  fed : (given : List ℕ) → length given ≡ 188 * l._first → HasFed l.fn.self given
      → IsFed (feeding l.fn.self.plan.now) given (take l.done l.fn.bytes) (HasFed l.self) (only (take l.done l.bytes));
}

abbrev pub decreases-loop-done : goal.decreases-loop-done
decreases-loop-done l = length l.initial.bytes - l.done
