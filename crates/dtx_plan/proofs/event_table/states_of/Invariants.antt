use Rattle.std.proofs.Common.{◌≡◌, ◌-◌, ◌<◌, true, take, map, length}
use Rattle.std.specs.List.{All, list_all}
use Rattle.dtx_plan.specs.EventTable.{is_state}
use Rattle.dtx_plan.proofs.event_table.states_of.Given as goal

abbrev pub invariant-loop-i : goal.invariant-loop-i
invariant-loop-i l = record {
  long : length l.states ≡ 12;
  read : take l.i l.states ≡ map (λ digit. digit - 48) (take l.i l.digits);
  sound : list_all is_state (take l.i l.digits) ≡ true;
  small : All (λ state. state < 8) l.states;
}
