use Rattle.std.proofs.Common.{◌++◌, ◌*◌, ℕ, List, take, drop, ap, ap₂, ◌∙◌}
use Rattle.dtx_outer.specs.Inner.{block_behind}
use Rattle.dtx_outer.proofs.Runs.{four_set}
use Rattle.dtx_outer.proofs.inner.windows.Goals as goal

pub returns : goal.returns
returns g c =
    let window = λ (us vs : List ℕ). drop c.args.skip us ++ take c.args.skip vs in
    four_set c.args.words.now c.window.new.word c.window-2.new.word c.window-3.new.word c.window-4.new.word
    (λ p. window (block_behind g.row.N c.args.before.now c.args.now.now p)
    (take g.row.N (drop (g.row.N * p) c.args.now.now))) c.told-words
    (c.window.ensures ∙ ap (window c.args.before.now) c.block.ensures.block)
    (c.window-2.ensures ∙ ap₂ window c.block-2.ensures.block c.block-3.ensures.block)
    (c.window-3.ensures ∙ ap₂ window c.block-4.ensures.block c.block-5.ensures.block)
    (c.window-4.ensures ∙ ap₂ window c.block-6.ensures.block c.block-7.ensures.block)
