use Rattle.std.proofs.Common.{◌*◌, ap, subst, arith}
use Rattle.dtx_outer.specs.Inner.{Kept, Gives}
use Rattle.dtx_outer.proofs.Runs.{taken_next, stands_next}
use Rattle.dtx_outer.proofs.inner.Inner.take.Goals as goal

pub returns-clause-taken : goal.returns-clause-taken
returns-clause-taken g c = λ y s.
    let code = c.known.ensures.code in
    let v = c.next_word.ensures.kept in
    let t = ap (λ (d : Kept). d.waits) v in
    taken_next g.row.N g.row.K g.row.B g.row.M c.args.self.now y c.args.bytes.now c.next_word.new.word c.args.out.now
    c.give_next.new.out c.give_next.result (omega (arith, code.some, code.longer)) c.known.ensures.numbers c.told-bytes
    s c.next_word.ensures.word
    (λ h. c.give_next.ensures.waiting (omega (arith, h, t)))
    (λ z. subst (λ (d : Kept). Gives g.row.N g.row.K d.white (g.row.K * d.place) c.next_word.new.word
    c.give_next.new.out c.give_next.result) v
    (c.give_next.ensures.given (omega (arith, z, t)) c.next_word.new.word c.correct-corrected.ensures.answer))

pub returns-clause-stands : goal.returns-clause-stands
returns-clause-stands g c = λ y s.
    let code = c.known.ensures.code in
    let v = c.next_word.ensures.kept in
    stands_next g.row.N g.row.K g.row.B g.row.M g.W.Whitener.PERIOD c.args.self.now c.give_next.new.self y
    c.args.bytes.now (omega (arith, code.some)) c.known.ensures.period c.known.ensures.long c.told-bytes s
    (rw (← v) c.give_next.ensures.kept)
