use Rattle.std.proofs.Common.{sym, ◌∙◌}
use Rattle.dtx_words.proofs.Repeated.{repeated_here, not_repeated}
use Rattle.dtx_words.proofs.names.repeated_name.Goals as goal

pub returns-then-contains : goal.returns-then-contains
returns-then-contains c =
    sym (c.loop-i.invariant
    ∙ repeated_here c.args.names.now c.loop-i.i _ c.loop-i-test.true (sym c.contains.ensures.value
    ∙ c.if-contains.true))

pub loop-i-preserved : goal.loop-i-preserved
loop-i-preserved c =
    c.loop-i.invariant ∙ not_repeated c.args.names.now c.loop-i.i _ c.loop-i-test.true (sym c.contains.ensures.value
    ∙ c.if-contains.false)
