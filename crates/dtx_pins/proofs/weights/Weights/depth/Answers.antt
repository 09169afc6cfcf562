use Rattle.std.proofs.Common.{arith}
use Rattle.dtx_pins.proofs.SymbolDepths.{depth_is}
use Rattle.dtx_pins.proofs.weights.Weights.depth.Goals as goal

pub returns-clause-depth : goal.returns-clause-depth
returns-clause-depth c =
    depth_is c.args.self.now.scale c.args.symbol (λ e. omega (arith, c.args.self.now.some, e)) c.ranges.symbol
