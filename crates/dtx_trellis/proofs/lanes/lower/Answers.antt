use Rattle.std.proofs.Common.{get_or, bit_and, ◌∙◌, arith, Fits, w8, rules}
use Rattle.std.proofs.lemmas.Simd.{Each1-get_or}
use Rattle.dtx_trellis.proofs.LaneStepsLemmas.{long_splat, low_bits, splat_at}
use Rattle.dtx_trellis.proofs.lanes.lower.Goals as goal

pub returns-clause-lanes : goal.returns-clause-lanes
returns-clause-lanes c = λ p l.
    let fits = Each1-get_or (Fits w8) c.args.v p 0 (omega (arith, c.fits-v.0)) c.fits-v.1 in
    splat_at bit_and c.args.v 15 p c.fits-v.0 l ∙ low_bits (get_or c.args.v p 0) fits.fits

pub returns-clause-nibbles : goal.returns-clause-nibbles
returns-clause-nibbles c = search (rules, long_splat, Each1-get_or, splat_at, low_bits)
