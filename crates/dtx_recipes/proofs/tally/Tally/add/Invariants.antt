use Rattle.std.proofs.Common.{◌≡◌, ◌+◌, ◌*◌, ◌≤◌, take}
use Rattle.dtx_recipes.specs.Tally.{fixed_in, flagged_in}
use Rattle.dtx_recipes.proofs.tally.Tally.add.Given as goal

abbrev pub invariant-loop-i : goal.invariant-loop-i
invariant-loop-i l = record {
  segments : l.self.segments ≡ l.fn.self.segments;
  runs : l.self.runs ≡ l.fn.self.runs;
  packets : l.self.packets ≡ l.fn.self.packets + l.i;
  fixed : l.self.fixed ≡ l.fn.self.fixed + fixed_in (take l.i l.packets);
  flagged : l.self.flagged ≡ l.fn.self.flagged + flagged_in (take l.i l.packets);
  most_fixed : l.self.fixed ≤ l.fn.self.fixed + 255 * l.i;
  most_flagged : l.self.flagged ≤ l.fn.self.flagged + l.i;
}
