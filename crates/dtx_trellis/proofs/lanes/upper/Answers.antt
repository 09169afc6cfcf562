use Rattle.std.proofs.Common.{◌/◌, ◌^◌, ◌<◌, sym, subst, arith, Fits, w8}
use Rattle.std.proofs.lemmas.Simd.{Each1-get_or}
use Rattle.dtx_trellis.proofs.LaneStepsLemmas.{long_splat, splat_at}
use Rattle.dtx_trellis.proofs.lanes.upper.Goals as goal

pub returns-clause-lanes : goal.returns-clause-lanes
returns-clause-lanes c = λ p l. splat_at (λ a b. a / 2 ^ b) c.args.v 4 p c.fits-v.0 l

pub returns-clause-nibbles : goal.returns-clause-nibbles
returns-clause-nibbles c = record {
  long = long_splat (λ a b. a / 2 ^ b) c.args.v 4 c.fits-v.0;
  small = λ p l.
      let fits = (Each1-get_or (Fits w8) c.args.v p 0 (omega (arith, c.fits-v.0)) c.fits-v.1).fits in
      subst (λ x. x < 16) (sym (splat_at (λ a b. a / 2 ^ b) c.args.v 4 p c.fits-v.0 l)) (omega arith);
}
