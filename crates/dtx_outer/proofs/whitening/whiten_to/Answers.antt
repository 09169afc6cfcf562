use Rattle.std.proofs.Common.{◌≡◌, ℕ, ◌+◌, ◌-◌, ◌<◌, ◌≤◌, ◌⊎◌, inl, inr, List, length, get_or, sym, ◌∙◌, arith}
use Rattle.std.proofs.lemmas.Bool.{cases_lt}
use Rattle.std.specs.Int.RustNames.{bit_xor}
use Rattle.dtx_laws.proofs.WhiteningLemmas.{whitened_by}
use Rattle.dtx_outer.proofs.whitening.whiten_to.Goals as goal

pub returns : goal.returns
returns g c =
    let white : List ℕ = g.W.Whitener.bytes c.args.whitener.now in
    let head : List ℕ = c.args.head.now in
    let new : List ℕ = c.whiten_piece-2.new.out in
    let from : ℕ = c.args.from in
    let each : (j : ℕ) → j < length head → (j < g.row.K - 16) ⊎ (g.row.K - 16 ≤ j)
    → get_or new j 0 ≡ bit_xor (get_or head j 0) (get_or white (from + j) 0) =
    λ j l. elim [
      | inl k ↦ c.whiten_piece-2.ensures.before j k
          ∙ c.loop-c.invariant.done j (omega (arith, k, c.loop-c-test.false))
      | inr k ↦ c.whiten_piece-2.ensures.piece j k (omega (arith, l, c.requires.long, c.if-this-lt-PIECE.false))
    ] in
    whitened_by white from head new
    (c.whiten_piece-2.ensures.same ∙ c.loop-c.invariant.long ∙ sym c.requires.long)
    (λ j l. each j l (cases_lt j (g.row.K - 16)))
