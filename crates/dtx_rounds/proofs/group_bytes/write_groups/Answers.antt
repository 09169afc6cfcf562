use Rattle.std.proofs.Common.{◌≡◌, ℕ, ℤ, ◌+◌, ◌-◌, ◌*◌, List, drop, length, take, sym, ap, ◌∙◌}
use Rattle.std.proofs.Common.{subst, arith}
use Rattle.dtx_slice.specs.Unrolled.{precoder_bits_of}
use Rattle.dtx_rounds.proofs.GroupBytes.{AreWritten, written_all, written_next, written_none}
use Rattle.dtx_rounds.proofs.group_bytes.write_groups.Goals as goal

pub loop-g-init : goal.loop-g-init
loop-g-init c =
    subst (λ bits. AreWritten c.args.segments.now (precoder_bits_of c.args.last.now) 0 bits c.args.bytes.now)
    (sym c.start.ensures.precoder_bits)
    (written_none c.args.segments.now (precoder_bits_of c.args.last.now) c.args.bytes.now c.requires.room
    (ap length (sym c.start.ensures.precoder_bits) ∙ c.start.ensures.long))

pub loop-g-preserved : goal.loop-g-preserved
loop-g-preserved c =
    written_next c.args.segments.now segments (precoder_bits_of c.args.last.now) g c.loop-g.unroll
    c.write_group.new.unroll c.write_group.new.bytes c.loop-g.bytes c.loop-g.invariant
    (omega (arith, c.loop-g-test.true, c.requires.few)) part c.write_group.ensures.bytes
    c.write_group.ensures.precoder_bits c.write_group.ensures.coders c.write_group.ensures.levels
  where
    g : ℕ
    g = c.loop-g.g

    segments : List (List ℤ)
    segments = take (4 * g + 4 - 4 * g) (drop (4 * g) c.args.segments.now)

    part : take 4 (drop (4 * g) c.args.segments.now) ≡ segments
    part =
        let four : 4 ≡ 4 * g + 4 - 4 * g = omega arith in
        ap (λ n. take n (drop (4 * g) c.args.segments.now)) four

pub returns : goal.returns
returns c =
    written_all c.args.segments.now (precoder_bits_of c.args.last.now) c.loop-g.g c.loop-g.unroll c.loop-g.bytes
    c.loop-g.invariant (omega (arith, c.requires.whole, c.loop-g-test.false, c.loop-g.auto.g-end))
