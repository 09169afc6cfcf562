use Rattle.std.proofs.Common.{get_or, ap, ◌∙◌, arith}
use Rattle.std.proofs.lemmas.Simd.{get_or-chunk}
use Rattle.dtx_spread.proofs.Written.{long_on}
use Rattle.dtx_spread.proofs.rings.exchange_long.Goals as goal

pub returns-clause-gone : goal.returns-clause-gone
returns-clause-gone c = λ k l.
    get_or-chunk 0 16 c.args.items.now k 0 (omega (arith, l, c.requires.rows))
    ∙ ap (λ n. get_or c.args.items.now n 0) (omega arith)

pub returns-clause-items : goal.returns-clause-items
returns-clause-items c =
    long_on c.args.count c.args.items.now c.args.column c.move_up.new.items c.last_of-last.result c.requires.rows
    (omega (arith, c.requires.long)) c.requires.column c.move_up.auto.items c.last_of-last.ensures.long
    c.move_up.ensures c.last_of-last.ensures.last
