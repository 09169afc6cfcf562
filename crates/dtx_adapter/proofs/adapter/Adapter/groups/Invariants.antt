use Rattle.std.proofs.Common.{◌≡◌, ℕ, ◌+◌, ◌-◌, ◌%◌, ◌<◌, ◌≤◌, ◌++◌, List, length, take, drop}
use Rattle.dtx_plan.specs.declared.plan.Plan.{Plan}
use Rattle.dtx_adapter.specs.Adapting.{StandsFor}
use Rattle.dtx_adapter.specs.Feed.{feed, placeholders}
use Rattle.dtx_adapter.proofs.adapter.Adapter.groups.Given as goal

abbrev pub invariant-loop-done : goal.invariant-loop-done
invariant-loop-done l = record {
  within : l.done ≤ length l.fn.packets;
  whole : l.done < length l.fn.packets → l.self.given % 4 ≡ 0;
  long : length l.packets ≡ length l.fn.packets;
  given : l.self.given ≡ l.fn.self.given + l.done;
  rest : drop l.done l.packets ≡ drop l.done l.fn.packets;
  filled : l.filled ≡ placeholders (take l.done l.fn.packets);
  few : l.filled ≤ l.done;
  stands : (plan : Plan) (stream : List (List ℕ)) → StandsFor plan l.fn.self stream
      → StandsFor plan l.self (stream ++ take l.done l.fn.packets);
  fed : (plan : Plan) (stream : List (List ℕ)) → StandsFor plan l.fn.self stream
      → take l.done l.packets ≡ drop (length stream) (feed plan (stream ++ take l.done l.fn.packets));
}

abbrev pub decreases-loop-done : goal.decreases-loop-done
decreases-loop-done l = length l.initial.packets - l.done
