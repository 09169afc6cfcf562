use Rattle.std.proofs.Common.{arith}
use Rattle.dtx_rs.proofs.Encoded.{table_codeword, register_codeword, made_codeword}
use Rattle.dtx_rs.proofs.encoder.RsEncode.encode.Goals as goal

pub returns-then-this-le-WIDTH-clause-codeword : goal.returns-then-this-le-WIDTH-clause-codeword
returns-then-this-le-WIDTH-clause-codeword g c =
    let s = c.args.self.now in
    table_codeword g.row.N g.row.K 20 s.divisor s.table.divisor c.args.head.now c.parity.result c.args.word.now
    c.join.new.word s.code c.if-this-le-WIDTH.true (omega arith) s.divides s.tabulated c.told-head c.told-word
    c.join.ensures.bytes c.parity.ensures c.join.ensures.word

pub returns-then-this-le-WIDTH-clause-is : goal.returns-then-this-le-WIDTH-clause-is
returns-then-this-le-WIDTH-clause-is g c =
    made_codeword g.row.N g.row.K c.args.head.now c.join.new.word c.args.self.now.code c.told-head c.join.ensures.bytes
    (returns-then-this-le-WIDTH-clause-codeword g c)

pub returns-else-this-le-WIDTH-clause-codeword : goal.returns-else-this-le-WIDTH-clause-codeword
returns-else-this-le-WIDTH-clause-codeword g c =
    let s = c.args.self.now in
    register_codeword g.row.N g.row.K s.divisor c.args.head.now c.encode_by_register.new.word s.code s.divides
    c.told-head c.encode_by_register.ensures.bytes c.encode_by_register.ensures.word

pub returns-else-this-le-WIDTH-clause-is : goal.returns-else-this-le-WIDTH-clause-is
returns-else-this-le-WIDTH-clause-is g c =
    made_codeword g.row.N g.row.K c.args.head.now c.encode_by_register.new.word c.args.self.now.code c.told-head
    c.encode_by_register.ensures.bytes (returns-else-this-le-WIDTH-clause-codeword g c)
