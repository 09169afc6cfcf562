use Rattle.std.proofs.Common.{◌≡◌, ℕ, ◌+◌, ◌-◌, ◌*◌, ◌/◌, ◌%◌, ◌<◌, get_or, ap, ◌∙◌, arith}
use Rattle.dtx_slice.specs.Unrolled.{lane_byte, byte_back}
use Rattle.dtx_slice.proofs.PlacesLemmas.{before_first, bytes_more, bytes_over, lane_byte_is, later_byte_is}
use Rattle.dtx_slice.proofs.walk.walk.Goals as goal

pub loop-segment-init : goal.loop-segment-init
loop-segment-init c =
    let s = c.args.first in
    let bits = c.args.precoder_bits.now in
    let levels = c.args.levels.now in
    let new = c.store.new.bytes in
    let small : (k : ℕ) → k < 12 → get_or c.args.precoder_bits.now k 0 < 2 =
    λ k l. c.requires.small_bits k (omega (arith, c.told-precoder_bits)) in
    record {
      long = c.store.array_long;
      bytes = bytes_more 0 (λ j. get_or new j 0 ≡ byte_back s bits levels j) (λ j l. absurd (omega arith))
          (λ p l. c.store.ensures.bytes p l ∙ c.four_rounds-lanes.ensures.bytes p l
          ∙ lane_byte_is s 0 p (get_or c.laid_out-before.result p 0 / 4 % 2) bits levels l
          (before_first s p (get_or c.laid_out-before.result p 0) bits levels
          (small ((p + 4 * (c.args.first % 3)) % 12) (omega arith)) (c.laid_out-before.ensures.precoder_bits p l)));
    }

pub loop-segment-preserved : goal.loop-segment-preserved
loop-segment-preserved c =
    let s = c.args.first in
    let bits = c.args.precoder_bits.now in
    let levels = c.args.levels.now in
    let from = 17 * c.loop-segment.segment + 1 in
    let new = c.store-in-loop-segment.new.bytes in
    let last : 17 * c.loop-segment.segment + 1 + 16 < 69 = omega (arith, c.loop-segment-test.true) in
    let is : (h p : ℕ) → 0 < h → h < 69 → p < 12
    → lane_byte (get_or c.args.levels.now (12 * (4 * h - 1) + p) 0 / 4 % 2) c.args.levels.now h p
    ≡ byte_back c.args.first c.args.precoder_bits.now c.args.levels.now (12 * h + p) =
    λ h p k l m. later_byte_is s h p bits levels k l m
    (c.requires.small (12 * (4 * h - 1) + p) (omega (arith, c.told-levels))) in
    let whole : (j : ℕ) → j < 12 * (17 * c.loop-segment.segment + 1 + 16) → get_or c.walk_whole.new.bytes j 0
    ≡ byte_back c.args.first c.args.precoder_bits.now c.args.levels.now j =
    bytes_over from 16 (λ j. get_or c.walk_whole.new.bytes j 0 ≡ byte_back s bits levels j)
    (λ j l. c.walk_whole.ensures.before j l ∙ c.loop-segment.invariant.bytes j l)
    (λ h p k l m. c.walk_whole.ensures.bytes h p k l m ∙ is h p (omega arith) (omega arith) m) in
    let all : (j : ℕ) → j < 12 * (17 * c.loop-segment.segment + 1 + 16 + 1)
    → get_or c.store-in-loop-segment.new.bytes j 0
    ≡ byte_back c.args.first c.args.precoder_bits.now c.args.levels.now j =
    bytes_more (from + 16) (λ j. get_or new j 0 ≡ byte_back s bits levels j)
    (λ j l. c.store-in-loop-segment.ensures.before j l ∙ whole j l)
    (λ p l. c.store-in-loop-segment.ensures.bytes p l ∙ c.four_rounds-lanes-in-loop-segment.ensures.bytes p l
    ∙ ap (λ x. lane_byte (x / 4 % 2) levels (from + 16) p) (c.load-before.ensures.levels p l)
    ∙ is (from + 16) p (omega arith) last l) in
    record { long = c.store-in-loop-segment.array_long; bytes = λ j l. all j (omega arith) }
