use Rattle.std.proofs.Common.{◌++◌, get_or, drop, ap, ◌∙◌, arith}
use Rattle.std.proofs.lemmas.List.{take-take}
use Rattle.std.proofs.lemmas.Simd.{get_or-put_chunk_at}
use Rattle.dtx_spread.proofs.rings.lent.Goals as goal
use lib.Lanes.{put_chunk}

pub returns-then-count-le16-clause-gone : goal.returns-then-count-le16-clause-gone
returns-then-count-le16-clause-gone c = λ k l.
    let left = c.exchange_few.result in
    ap (λ n. get_or (put_chunk 0 c.args.gone.now left) n 0) (omega arith)
    ∙ get_or-put_chunk_at 0 c.args.gone.now left k 0
    (omega (arith, l, c.if-count-le16.true, c.exchange_few.ensures.long))
    (omega (arith, c.requires.columns.1, c.exchange_few.ensures.long))
    ∙ c.exchange_few.ensures.gone k l
    ∙ ap (λ ys. get_or (c.args.items.now ++ ys) k 0)
    (take-take c.args.count 16 c.args.column.now (omega (arith, c.if-count-le16.true)))

pub returns-then-count-le16-clause-items : goal.returns-then-count-le16-clause-items
returns-then-count-le16-clause-items c =
    c.exchange_few.ensures.items
    ∙ ap (λ ys. drop c.args.count (c.args.items.now ++ ys))
    (take-take c.args.count 16 c.args.column.now (omega (arith, c.if-count-le16.true)))
