use Rattle.std.proofs.Common.{◌≡◌, ℕ, ◌*◌, ◌/◌, ◌<◌, get_or, arith, rules}
use Rattle.std.proofs.lemmas.Simd.{Each1-from_get_or}
use Rattle.dtx_trellis.specs.Trellis.{symbol_of}
use Rattle.dtx_trellis.proofs.LaneStepsLemmas.{level_small, long_sent, sent_at}
use Rattle.dtx_trellis.proofs.StoresLemmas.{stored}
use Rattle.dtx_trellis.proofs.walk.store.Goals as goal

halved : (d z : ℕ) → d ≡ 2 * z → d / 2 ≡ z
halved d z e = omega arith

pub overflow_cast-sent : goal.overflow_cast-sent
overflow_cast-sent c = Each1-from_get_or _ c.doubled-doubled.result 0 (λ i l.
    let m : i < 16 = omega (arith, c.doubled-doubled.ensures.long) in
    let n = level_small (get_or c.args.lanes i 0) in
    record { sfits = omega (arith, c.doubled-doubled.ensures.levels i m) })

pub returns-then-place-clause-symbols : goal.returns-then-place-clause-symbols
unfolding symbol_of
returns-then-place-clause-symbols c = grind (arith, stored, long_sent, sent_at, level_small)

pub store_last-requires-clause-levels : goal.store_last-requires-clause-levels
store_last-requires-clause-levels c = grind (arith, halved, level_small)

pub returns-else-place-clause-symbols : goal.returns-else-place-clause-symbols
returns-else-place-clause-symbols c = search rules
