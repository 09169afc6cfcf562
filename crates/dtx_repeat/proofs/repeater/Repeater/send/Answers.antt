use Rattle.dtx_repeat.proofs.repeater.Repeater.send.Goals as goal

pub returns : goal.returns
returns c = λ a d segments given h.
    let taken = c.take.ensures a d given h.exciter in
    record {
      answer = taken.answer;
      air = taken.air;
      stands = record { receiver = h.receiver; place = h.place; exciter = taken.stands };
    }
