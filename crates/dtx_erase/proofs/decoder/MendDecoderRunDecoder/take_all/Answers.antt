use Rattle.std.proofs.Common.{sym}
use Rattle.dtx_receiver.specs.Bytes.{symbols_in}
use Rattle.dtx_erase.proofs.Packets.{all_taken}
use Rattle.dtx_erase.proofs.decoder.MendDecoderRunDecoder.take_all.Goals as goal

pub returns-clause-stands : goal.returns-clause-stands
returns-clause-stands c = λ run d e.
    let taken = all_taken (symbols_in c.args.segments.now) _ _ c.give_groups.new.self _ _
    c.take_all-groups.new.self c.take_all.new.self c.args.place c.take_all-groups.result _
    c.give_groups.new.batch.packets.items c.self.view_is (sym c.take_all-groups.ensures.count)
    c.deref_mut-2.ensures.value c.deref_mut.ensures.value c.take_all-groups.ensures.further c.take_all.ensures
    c.give_groups.ensures.given run d e in
    taken.holds

pub returns-clause-packets : goal.returns-clause-packets
returns-clause-packets c = λ run d e.
    let taken = all_taken (symbols_in c.args.segments.now) _ _ c.give_groups.new.self _ _
    c.take_all-groups.new.self c.take_all.new.self c.args.place c.take_all-groups.result _
    c.give_groups.new.batch.packets.items c.self.view_is (sym c.take_all-groups.ensures.count)
    c.deref_mut-2.ensures.value c.deref_mut.ensures.value c.take_all-groups.ensures.further c.take_all.ensures
    c.give_groups.ensures.given run d e in
    taken.packets
