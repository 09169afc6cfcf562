use Rattle.std.proofs.Common.{ℕ, ◌+◌, ◌%◌, List, get_or, ap, ◌∙◌, arith}
use Rattle.dtx_slice.proofs.PlacesLemmas.{lane_stays, lane_moves}
use Rattle.dtx_slice.proofs.walk.load_round.Goals as goal
use Rattle.dtx_slice.proofs.walk.load_round.Goals.{then-byte-round-lt-SEGMENT_ROUNDS, else-byte-round-lt-SEGMENT_ROUNDS}

pub returns-clause-levels : goal.returns-clause-levels
returns-clause-levels c =
    let levels = c.args.levels.now in
    elim c.if-byte-round-lt-SEGMENT_ROUNDS.branch [
      | then-byte-round-lt-SEGMENT_ROUNDS w ↦ λ p l.
          ap (λ (xs : List ℕ). get_or xs p 0) w.result-is ∙ c.load-lanes.ensures.levels p l
          ∙ ap (λ i. get_or levels i 0) (lane_stays c.args.byte c.args.round p c.requires.round l
          w.if-byte-round-lt-SEGMENT_ROUNDS.true)
      | else-byte-round-lt-SEGMENT_ROUNDS w ↦ λ p l.
          ap (λ (xs : List ℕ). get_or xs p 0) w.result-is ∙ w.turned.ensures.lanes p l
          ∙ c.load-lanes.ensures.levels ((p + 8) % 12) (omega arith)
          ∙ ap (λ i. get_or levels i 0) (lane_moves c.args.byte c.args.round p c.requires.round l
          w.if-byte-round-lt-SEGMENT_ROUNDS.false)
    ]
