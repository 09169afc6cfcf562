use Rattle.dtx_watch.proofs.Ended.{does_end}
use Rattle.dtx_watch.proofs.watcher.Watcher.end_group.Goals as goal

pub returns : goal.returns
returns c =
    does_end c.args.self.now c.tell_group-states.new.self c.expected-expected.result c.tell_group-states.result
    c.preset_of-preset.result c.is_ordered-self.result c.group.new.self c.group.new.air.segments
    c.group.new.air.symbols c.tell_group-states.new.notes.items c.group.new.air
    (record {
      four = c.requires.part;
      expects = c.expected-expected.ensures;
      told = c.tell_group-states.ensures.told;
      latest = c.tell_group-states.ensures.latest;
      orders = c.tell_group-states.ensures.order;
      presets = c.preset_of-preset.ensures;
      ordered_is = c.is_ordered-self.ensures;
      codes = c.group.ensures;
    })
