use Rattle.std.proofs.Common.{◌≡◌, ◌⊎◌, ℕ, ◌/◌, ◌%◌, ◌≤◌, ◌++◌, List, length, take, drop}
use Rattle.dtx_coder.specs.Stream.{states}
use Rattle.dtx_plan.specs.declared.plan.Plan.{Plan}
use Rattle.dtx_adapter.specs.Feed.{feed, placeholders}
use Rattle.dtx_adapter.specs.Filling.{Fills}
use Rattle.dtx_adapter.proofs.run.make_group.Given as goal

abbrev pub invariant-loop-i : goal.invariant-loop-i
invariant-loop-i l = record {
  long : length l.packets ≡ length l.fn.packets;
  rest : drop l.i l.packets ≡ drop l.i l.fn.packets;
  filled : l.filled ≡ placeholders (take l.i l.fn.packets);
  few : l.filled ≤ l.i;
  told : l.filler.states ≡ l.fn.filler.states;
  fills : (plan : Plan) (stream : List (List ℕ)) → Fills plan l.fn.filler stream (l.first / 4)
      → length stream ≡ l.first → l.first % 4 ≡ 0
      → Fills plan l.filler (stream ++ take l.i l.fn.packets) (l.first / 4);
  fed : (plan : Plan) (stream : List (List ℕ)) → Fills plan l.fn.filler stream (l.first / 4)
      → length stream ≡ l.first → l.first % 4 ≡ 0
      → (placeholders l.fn.packets ≡ 0) ⊎ (l.fn.filler.states ≡ states (feed plan stream))
      → take l.i l.packets
      ≡ drop (length stream) (feed plan (stream ++ take l.i l.fn.packets));
}
