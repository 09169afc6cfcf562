use Rattle.std.proofs.Common.{◌≡◌, ℕ, ◌+◌, ◌%◌, ◌<◌, ◌==◌, true, refl, bit_or, arith}
use Rattle.std.proofs.lemmas.Bool.{agree_below_at, eqb-true}
use Rattle.dtx_packets.proofs.packet.with_bit_7.Goals as goal

-- bit 7 of a byte is set
highest_set : (b : ℕ) → b < 256 → bit_or b 128 ≡ 128 + b % 128
highest_set b l =
    eqb-true (bit_or b 128) (128 + b % 128)
    (agree_below_at (λ x. bit_or x 128 == 128 + x % 128) (λ _. true) 256 b refl l)

pub returns : goal.returns
returns c = highest_set c.args.byte (omega (arith, c.ranges.byte))
