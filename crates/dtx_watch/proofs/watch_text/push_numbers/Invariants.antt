use Rattle.std.proofs.Common.{◌≡◌, ◌+◌, ◌*◌, ◌≤◌, ◌++◌, length, take}
use Rattle.dtx_watch.specs.WatchText.{numbers_text}
use Rattle.dtx_watch.proofs.watch_text.push_numbers.Given as goal

abbrev pub invariant-loop-number : goal.invariant-loop-number
invariant-loop-number l = record {
  text : l.text.bytes ≡ l.fn.text.bytes ++ numbers_text (take l.number-index l.numbers);
  long : length l.text.bytes ≤ length l.fn.text.bytes + 21 * l.number-index;
}
