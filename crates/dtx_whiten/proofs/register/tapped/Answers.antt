use Rattle.std.proofs.Common.{arith}
use Rattle.std.proofs.lemmas.Nat.Bits.{shr_and_one, bit_at_lowest}
use Rattle.std.proofs.lemmas.Nat.{and_mask}
use Rattle.dtx_whiten.specs.Randomizer.{tapped}
use Rattle.dtx_whiten.proofs.register.tapped.Goals as goal

pub returns : goal.returns
unfolding tapped
returns c =
    let r = c.args.register in
    omega (
      arith,
      and_mask r 1,
      bit_at_lowest r,
      shr_and_one r 2,
      shr_and_one r 3,
      shr_and_one r 6,
      shr_and_one r 10,
      shr_and_one r 11,
      shr_and_one r 12,
      shr_and_one r 13,
    )
