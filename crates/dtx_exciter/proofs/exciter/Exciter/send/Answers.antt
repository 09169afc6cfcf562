use Rattle.std.proofs.Common.{refl}
use Rattle.dtx_exciter.proofs.Whole.{does_send}
use Rattle.dtx_exciter.proofs.exciter.Exciter.send.Goals as goal

pub returns : goal.returns
returns c =
    does_send c.args.self.now _ c.args.first c.order-order.result c.see.new.self c.answer-told.result
    c.is_sent-sent.result
    c.begins_with_sync-sync.result c.states_of-preset.result c.group.new.self
    c.group.new.air.segments c.keep_if.new.air.segments c.group.new.air.symbols c.keep_if.new.air.symbols
    (record {
      order_is = c.order-order.ensures.order;
      turned = c.see.ensures;
      told = c.answer-told.ensures;
      sent_is = c.is_sent-sent.ensures;
      sync_is = c.begins_with_sync-sync.ensures;
      states_are = c.states_of-preset.ensures;
      codes = c.group.ensures;
      count_is = c.keep_if.ensures.count;
      symbols_are = c.keep_if.ensures.symbols;
    }) refl
