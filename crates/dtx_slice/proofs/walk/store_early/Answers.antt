use Rattle.std.proofs.Common.{◌*◌, arith}
use Rattle.dtx_slice.proofs.Stores.{stored}
use Rattle.dtx_slice.proofs.walk.store_early.Goals as goal

pub returns-clause-bytes : goal.returns-clause-bytes
returns-clause-bytes c = λ p l.
    stored 828 (12 * c.args.byte) p c.args.bytes.now c.args.lanes c.told-bytes c.fits-lanes.0
    (omega (arith, c.requires)) (omega arith)
