use Rattle.std.proofs.Common.{◌≡◌, ◌≤◌, ◌+◌, ◌*◌, ◌++◌, length, take}
use Rattle.dtx_watch.specs.WatchText.{watch_text}
use Rattle.dtx_recipes.specs.Watch.{tally_with}
use Rattle.dtx_jobs.proofs.watching.Watching.gather.Given as goal

abbrev pub invariant-loop-i : goal.invariant-loop-i
invariant-loop-i l = record {
  lines : l.self.lines ≡ l.fn.self.lines ++ watch_text (take l.i l.fn.self.notes.items);
  tally : l.self.tally ≡ tally_with l.fn.self.tally (take l.i l.fn.self.notes.items);
  long : length l.self.lines ≤ length l.fn.self.lines + 148 * l.i;
  watcher : l.self.watcher ≡ l.fn.self.watcher;
  notes : l.self.notes ≡ l.fn.self.notes;
}
