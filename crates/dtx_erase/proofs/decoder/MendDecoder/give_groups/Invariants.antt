use Rattle.std.proofs.Common.{◌≤◌, ◌*◌, length}
use Rattle.dtx_erase.specs.Sides.{AreGiven}
use Rattle.dtx_erase.proofs.decoder.MendDecoder.give_groups.Given as goal

abbrev pub invariant-loop-group : goal.invariant-loop-group
invariant-loop-group l = record {
  given : AreGiven l.fn.self l.self l.group l.batch.packets.items;
  few : length l.batch.packets.items ≤ 4 * l.group;
}
