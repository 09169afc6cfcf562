use Rattle.dtx_rs.proofs.Encoded.{four_parities}
use Rattle.dtx_rs.proofs.encoder.RsEncode.parities.Goals as goal

pub returns : goal.returns
returns g c =
    let s = c.args.self.now in
    let one = c.front_of-one.ensures in
    let two = c.front_of-two.ensures in
    let three = c.front_of-three.ensures in
    let four = c.front_of-four.ensures in
    four_parities g.row.N g.row.K s.divisor s.table.divisor c.args.words.now c.parity_of_four.result
    c.front_of-one.result.now c.front_of-two.result.now c.front_of-three.result.now c.front_of-four.result.now
    s.code c.requires s.divides s.tabulated c.parity_of_four.ensures
    (one.front, one.long, one.bytes) (two.front, two.long, two.bytes) (three.front, three.long, three.bytes)
    (four.front, four.long, four.bytes)
