use Rattle.std.proofs.Common.{◌≡◌, ◌-◌, ◌*◌, ap, arith}
use Rattle.dtx_outer.specs.Inner.{waiting}
use Rattle.dtx_outer.proofs.WordsLemmas.{waiting_some, delay_small, waited_within, completing_within, completing_is}
use Rattle.dtx_outer.proofs.inner.completed.Goals as goal

pub overflow_sub-result-2 : goal.overflow_sub-result-2
overflow_sub-result-2 g c =
    omega (arith, c.waited.ensures, waiting_some g.row.N g.row.B g.row.M c.requires.some c.requires.numbers)

pub overflow_mul-result-3 : goal.overflow_mul-result-3
overflow_mul-result-3 g c =
    let e : g.row.N * (c.waited.result - 1) ≡ g.row.N * (waiting g.row.N g.row.B g.row.M - 1) =
    ap (λ q. g.row.N * (q - 1)) c.waited.ensures in
    omega (
      arith,
      e,
      delay_small g.row.B g.row.M c.requires.numbers,
      waited_within g.row.N g.row.B g.row.M c.requires.some c.requires.numbers,
    )

pub overflow_sub-result-3 : goal.overflow_sub-result-3
overflow_sub-result-3 g c =
    let e : g.row.N * (c.waited.result - 1) ≡ g.row.N * (waiting g.row.N g.row.B g.row.M - 1) =
    ap (λ q. g.row.N * (q - 1)) c.waited.ensures in
    omega (arith, e, waited_within g.row.N g.row.B g.row.M c.requires.some c.requires.numbers)

pub returns-clause-at : goal.returns-clause-at
returns-clause-at g c =
    let e : g.row.N * (c.waited.result - 1) ≡ g.row.N * (waiting g.row.N g.row.B g.row.M - 1) =
    ap (λ q. g.row.N * (q - 1)) c.waited.ensures in
    omega (arith, e, completing_is g.row.N g.row.B g.row.M c.requires.some c.requires.numbers)

pub returns-clause-within : goal.returns-clause-within
returns-clause-within g c =
    let e : g.row.N * (c.waited.result - 1) ≡ g.row.N * (waiting g.row.N g.row.B g.row.M - 1) =
    ap (λ q. g.row.N * (q - 1)) c.waited.ensures in
    omega (
      arith,
      e,
      completing_is g.row.N g.row.B g.row.M c.requires.some c.requires.numbers,
      completing_within g.row.N g.row.B g.row.M c.requires.some c.requires.numbers,
    )
