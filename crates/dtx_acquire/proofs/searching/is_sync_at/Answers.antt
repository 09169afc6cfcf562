use Rattle.std.proofs.Common.{◌+◌, ◌≡◌, ◌∙◌, ap, arith}
use Rattle.dtx_acquire.specs.Agreement.{unlike}
use Rattle.dtx_acquire.proofs.searching.is_sync_at.Goals as goal

pub passes-requires-clause-count : goal.passes-requires-clause-count
passes-requires-clause-count g c =
    let none : c.args.place + 0 ≡ c.args.place = omega arith in
    c.unlike_in-count.ensures c.args.symbols.now c.args.place (omega (arith, c.requires)) c.window_at.ensures
    ∙ ap (λ p. unlike c.args.symbols.now p 0 515) none
