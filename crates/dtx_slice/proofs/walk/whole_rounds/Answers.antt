use Rattle.std.proofs.Common.{◌≡◌, ℕ, ◌+◌, ◌*◌, ◌/◌, ◌%◌, ◌<◌, get_or, ap, ◌∙◌, arith}
use Rattle.dtx_slice.specs.Unrolled.{lane_place}
use Rattle.dtx_slice.proofs.PlacesLemmas.{lane_joined, lane_stays}
use Rattle.dtx_slice.proofs.walk.whole_rounds.Goals as goal

pub returns-clause-bytes : goal.returns-clause-bytes
returns-clause-bytes c = λ p l.
    let none : 12 * (4 * c.args.byte) + p ≡ 12 * (4 * c.args.byte + 0) + p = omega arith in
    let stays : (i : ℕ) → i < 4 → 12 * (4 * c.args.byte + i) + p ≡ lane_place c.args.byte i p =
    λ i m. lane_stays c.args.byte i p m l (omega (arith, c.requires.whole)) in
    let at : (k i : ℕ) → k ≡ lane_place c.args.byte i p
    → get_or c.args.levels.now k 0 ≡ get_or c.args.levels.now (lane_place c.args.byte i p) 0 =
    λ k i e. ap (λ k. get_or c.args.levels.now k 0) e in
    c.joined.ensures.bytes p l
    ∙ lane_joined c.args.byte p (get_or c.args.before p 0 / 4 % 2) _ _ _ _ c.args.levels.now
    (c.load_early.ensures.levels p l ∙ at _ 0 (none ∙ stays 0 (omega arith)))
    (c.load_early-2.ensures.levels p l ∙ at _ 1 (stays 1 (omega arith)))
    (c.load_early-3.ensures.levels p l ∙ at _ 2 (stays 2 (omega arith)))
    (c.requires.last p l ∙ at _ 3 (stays 3 (omega arith)))
