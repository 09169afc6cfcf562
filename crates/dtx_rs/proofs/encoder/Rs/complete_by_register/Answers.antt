use Rattle.dtx_rs.proofs.Encoded.{register_put}
use Rattle.dtx_rs.proofs.encoder.Rs.complete_by_register.Goals as goal

pub returns-clause-one : goal.returns-clause-one
returns-clause-one g c =
    let s = c.args.self.now in
    let done = c.complete_by_register.ensures in
    register_put g.row.N g.row.K s.divisor c.args.one.now _ s.code s.divides c.requires.one done.bytes done.word

pub returns-clause-two : goal.returns-clause-two
returns-clause-two g c =
    let s = c.args.self.now in
    let done = c.complete_by_register-2.ensures in
    register_put g.row.N g.row.K s.divisor c.args.two.now _ s.code s.divides c.requires.two done.bytes done.word

pub returns-clause-three : goal.returns-clause-three
returns-clause-three g c =
    let s = c.args.self.now in
    let done = c.complete_by_register-3.ensures in
    register_put g.row.N g.row.K s.divisor c.args.three.now _ s.code s.divides c.requires.three done.bytes done.word

pub returns-clause-four : goal.returns-clause-four
returns-clause-four g c =
    let s = c.args.self.now in
    let done = c.complete_by_register-4.ensures in
    register_put g.row.N g.row.K s.divisor c.args.four.now _ s.code s.divides c.requires.four done.bytes done.word
