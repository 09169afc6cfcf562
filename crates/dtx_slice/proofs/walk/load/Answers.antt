use Rattle.std.proofs.Common.{◌≡◌, ◌+◌, ◌*◌, ℕ, List, get_or, ap, ◌∙◌, arith}
use Rattle.dtx_slice.proofs.walk.load.Goals as goal
use Rattle.dtx_slice.proofs.walk.load.Goals.{then-round-lt-LAST_ROUND, else-round-lt-LAST_ROUND}

pub returns-clause-levels : goal.returns-clause-levels
returns-clause-levels c =
    elim c.if-round-lt-LAST_ROUND.branch [
      | then-round-lt-LAST_ROUND w ↦ λ p l. ap (λ (xs : List ℕ). get_or xs p 0) w.result-is
          ∙ w.load_early.ensures.levels p l
      | else-round-lt-LAST_ROUND w ↦ λ p l.
          let e : 3300 + p ≡ 12 * c.args.round + p = omega (arith, w.if-round-lt-LAST_ROUND.false, c.requires.round) in
          ap (λ (xs : List ℕ). get_or xs p 0) w.result-is ∙ w.load_last.ensures.levels p l
          ∙ ap (λ i. get_or c.args.levels.now i 0) e
    ]
