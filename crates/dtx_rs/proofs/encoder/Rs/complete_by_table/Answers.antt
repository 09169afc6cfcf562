use Rattle.std.proofs.Common.{ap, get_or, []}
use Rattle.dtx_rs.proofs.Encoded.{put_codeword}
use Rattle.dtx_rs.proofs.encoder.Rs.complete_by_table.Goals as goal

pub returns-clause-one : goal.returns-clause-one
returns-clause-one g c =
    let s = c.args.self.now in
    let front = c.front_of.ensures in
    put_codeword g.row.N g.row.K s.divisor s.table.divisor c.front_of.result.now _ c.args.one.now _ s.code
    c.requires.few s.divides s.tabulated (front.front, front.long, front.bytes) c.requires.one
    (ap (λ ps. get_or ps 0 []) c.parity_of_four-parities.ensures) c.put_behind_two.ensures.word

pub returns-clause-two : goal.returns-clause-two
returns-clause-two g c =
    let s = c.args.self.now in
    let front = c.front_of-2.ensures in
    put_codeword g.row.N g.row.K s.divisor s.table.divisor c.front_of-2.result.now _ c.args.two.now _ s.code
    c.requires.few s.divides s.tabulated (front.front, front.long, front.bytes) c.requires.two
    (ap (λ ps. get_or ps 1 []) c.parity_of_four-parities.ensures) c.put_behind_two.ensures.other

pub returns-clause-three : goal.returns-clause-three
returns-clause-three g c =
    let s = c.args.self.now in
    let front = c.front_of-3.ensures in
    put_codeword g.row.N g.row.K s.divisor s.table.divisor c.front_of-3.result.now _ c.args.three.now _ s.code
    c.requires.few s.divides s.tabulated (front.front, front.long, front.bytes) c.requires.three
    (ap (λ ps. get_or ps 2 []) c.parity_of_four-parities.ensures) c.put_behind_two-2.ensures.word

pub returns-clause-four : goal.returns-clause-four
returns-clause-four g c =
    let s = c.args.self.now in
    let front = c.front_of-4.ensures in
    put_codeword g.row.N g.row.K s.divisor s.table.divisor c.front_of-4.result.now _ c.args.four.now _ s.code
    c.requires.few s.divides s.tabulated (front.front, front.long, front.bytes) c.requires.four
    (ap (λ ps. get_or ps 3 []) c.parity_of_four-parities.ensures) c.put_behind_two-2.ensures.other
