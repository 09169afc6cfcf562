use Rattle.std.proofs.Common.{◌++◌, length, sym, ap, ◌∙◌, arith}
use Rattle.dtx_receiver.specs.Runs.{tracked}
use Rattle.dtx_repeat.proofs.GoingOnLemmas.{at_end}
use Rattle.dtx_repeat.specs.Restored.{restored_so_far}
use Rattle.dtx_repeat.proofs.Refilled.{refilled}
use Rattle.dtx_repeat.proofs.RestoredLemmas.{length-restored}
use Rattle.dtx_repeat.proofs.repeater.Repeater.finish.Goals as goal

pub returns-clause-stands : goal.returns-clause-stands
unfolding tracked
returns-clause-stands c = λ a d segments given h. record {
  receiver = c.finish.ensures.stands;
  place = _;
  exciter = h.exciter;
}

pub returns-clause-packets : goal.returns-clause-packets
returns-clause-packets c = λ a d segments given h.
    let items = c.finish.new.batch.packets.items in
    let end = at_end segments c.args.self.now.place items h.place (c.finish.ensures.packets segments h.receiver) in
    end.behind
    ∙ ap (λ z. restored_so_far segments ++ z)
    (sym (refilled c.args.self.now.place items c.as_mut_slice.result.now c.restore-self.new.packets
    c.as_mut_slice.ensures.value c.restore-self.ensures.packets))

pub returns-clause-few : goal.returns-clause-few
returns-clause-few c =
    let items = c.finish.new.batch.packets.items in
    let same = refilled c.args.self.now.place items c.as_mut_slice.result.now c.restore-self.new.packets
    c.as_mut_slice.ensures.value c.restore-self.ensures.packets in
    omega (arith, ap length same, length-restored c.args.self.now.place items, c.finish.ensures.few)
