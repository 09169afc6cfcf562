use Rattle.std.proofs.Common.{◌≡◌, ℕ, ◌-◌, ◌/◌, ◌%◌, ◌<◌, ◌≤◌, ◌++◌, List, length, take, drop}
use Rattle.dtx_coder.specs.Stream.{states}
use Rattle.dtx_plan.specs.declared.plan.Plan.{Plan}
use Rattle.dtx_adapter.specs.Feed.{feed, placeholders}
use Rattle.dtx_adapter.specs.Filling.{Fills}
use Rattle.dtx_adapter.proofs.run.make_run.Given as goal

abbrev pub invariant-loop-done : goal.invariant-loop-done
invariant-loop-done l = record {
  within : l.done ≤ length l.fn.packets;
  whole : l.done < length l.fn.packets → l.done % 4 ≡ 0;
  rest : drop l.done l.packets ≡ drop l.done l.fn.packets;
  filled : l.filled ≡ placeholders (take l.done l.fn.packets);
  few : l.filled ≤ l.done;
  fills : (plan : Plan) (stream : List (List ℕ)) → Fills plan l.fn.filler stream ((length stream - 1) / 4)
      → length stream ≡ l.first → l.first % 4 ≡ 0
      → Fills plan l.filler (stream ++ take l.done l.fn.packets)
      ((length (stream ++ take l.done l.fn.packets) - 1) / 4);
  fed : (plan : Plan) (stream : List (List ℕ)) → Fills plan l.fn.filler stream ((length stream - 1) / 4)
      → length stream ≡ l.first → l.first % 4 ≡ 0 → l.told ≡ states (feed plan stream)
      → take l.done l.packets ≡ drop (length stream) (feed plan (stream ++ take l.done l.fn.packets));
}

abbrev pub decreases-loop-done : goal.decreases-loop-done
decreases-loop-done l = length l.initial.packets - l.done
