use Rattle.std.proofs.Common.{get_or, ap, ◌∙◌, arith}
use Rattle.std.proofs.lemmas.Simd.{get_or-chunk}
use Rattle.dtx_spread.proofs.columns.front.Goals as goal

pub returns-then-this-eq16-clause-front : goal.returns-then-this-eq16-clause-front
returns-then-this-eq16-clause-front g c = λ k l.
    get_or-chunk 0 16 c.args.bytes.now k 0 (omega (arith, l, c.requires.wide))
    ∙ ap (λ n. get_or c.args.bytes.now n 0) (omega arith)
