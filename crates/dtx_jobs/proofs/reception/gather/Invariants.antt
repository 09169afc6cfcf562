use Rattle.std.proofs.Common.{◌≡◌, ◌+◌, ◌*◌, ◌++◌, length, take}
use Rattle.dtx_recipes.specs.Giving.{bytes_of}
use Rattle.dtx_jobs.proofs.reception.gather.Given as goal

abbrev pub invariant-loop-i : goal.invariant-loop-i
invariant-loop-i l = record {
  bytes : l.packets ≡ l.fn.packets ++ bytes_of (take l.i l.brought);
  long : length l.packets ≡ length l.fn.packets + 188 * l.i;
}
