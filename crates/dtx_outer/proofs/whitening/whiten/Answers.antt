use Rattle.std.proofs.Common.{sym, ◌∙◌, arith}
use Rattle.dtx_laws.proofs.WhiteningLemmas.{whitened_by}
use Rattle.dtx_outer.proofs.whitening.whiten.Goals as goal

pub returns : goal.returns
returns g c =
    whitened_by (g.W.Whitener.bytes c.args.whitener.now) c.args.from c.args.head.now c.loop-i.white
    (c.loop-i.invariant.long ∙ sym c.requires.long)
    (λ j l. c.loop-i.invariant.done j (omega (arith, l, c.loop-i-test.false, c.requires.long)))
