use Rattle.std.proofs.Common.{length, ap, arith}
use Rattle.dtx_erase.proofs.Packets.{none_given, next_given}
use Rattle.dtx_erase.proofs.decoder.MendDecoder.give_groups.Goals as goal

pub loop-group-init : goal.loop-group-init
loop-group-init c = record {
  given = none_given c.args.self.now c.args.batch.now.packets.items c.requires.place c.requires.none;
  few = omega (arith, ap length c.requires.none);
}

pub loop-group-preserved : goal.loop-group-preserved
loop-group-preserved c = record {
  given = next_given c.args.self.now c.loop-group.self c.give_group.new.self c.loop-group.group
      c.loop-group.batch.packets.items c.give_group.new.batch.packets.items c.loop-group.invariant.given
      c.give_group.ensures.sides c.give_group.ensures.waiting c.give_group.ensures.given;
  few = omega (arith, c.give_group.ensures.few, c.loop-group.invariant.few);
}
