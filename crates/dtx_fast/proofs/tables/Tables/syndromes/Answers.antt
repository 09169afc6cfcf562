use Rattle.std.proofs.Common.{◌≡◌, ◌∙◌, ◌-◌, ◌<◌, ℕ, List, length, sym, ap, arith, get_or, take}
use Rattle.std.proofs.lemmas.List.{get_or-take, length-take-le}
use Rattle.dtx_galois.specs.Field.{pow, sums}
use Rattle.dtx_galois.proofs.WordsLemmas.{length_sums}
use Rattle.dtx_laws.proofs.PartsLemmas.{sums_at}
use Rattle.dtx_fast.specs.Recurrence.{walked}
use Rattle.dtx_fast.proofs.RowsLemmas.{value_walked}
use Rattle.dtx_fast.proofs.tables.Tables.syndromes.Goals as goal

pub returns-then-parity-le-PARITY-clause-values : goal.returns-then-parity-le-PARITY-clause-values
returns-then-parity-le-PARITY-clause-values c i l =
    let parity : List ℕ = c.args.parity.now in
    let right : List ℕ = c.args.right.now in
    let n : ℕ = length parity in
    let ds : List ℕ = c.differences-differences.result in
    let d : ℕ → ℕ = λ k. get_or (take n ds) k 0 in
    let long : length (take n ds) ≡ length (sums parity right) =
    length-take-le n ds (omega (arith, c.differences-differences.ensures.long, c.if-parity-le-PARITY.true))
    ∙ sym (length_sums parity right) in
    c.widened.ensures.same i (omega (arith, l, c.if-parity-le-PARITY.true))
    ∙ c.walk.ensures.values i (omega (arith, l, c.if-parity-le-PARITY.true))
    ∙ ap (λ (g : ℕ). walked (length (take n ds)) d (pow g i)) c.args.self.now.powers
    ∙ ap (λ w. walked w d (pow 2 i)) long
    ∙ sym (value_walked (sums parity right) d (pow 2 i)
    (λ k m.
    let k_below : k < n = omega (arith, m, length_sums parity right) in
    get_or-take n ds k 0 k_below ∙ c.differences-differences.ensures.sums k k_below
    ∙ sym (sums_at parity right (n - 1 - k) (omega arith) (omega (arith, c.requires.same)))
    ∙ ap (λ w. get_or (sums parity right) (w - 1 - k) 0) (sym (length_sums parity right))))
