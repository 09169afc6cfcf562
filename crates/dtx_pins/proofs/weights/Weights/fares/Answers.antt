use Rattle.std.proofs.Common.{◌+◌, arith}
use Rattle.dtx_pins.proofs.SymbolDepths.{ground_small}
use Rattle.dtx_pins.proofs.weights.Weights.fares.Goals as goal

pub raised-requires-clause-numbers : goal.raised-requires-clause-numbers
raised-requires-clause-numbers c i l =
    let a = c.args.self.now.low_are i l in let b = ground_small c.args.self.now.scale i in omega (arith, a, b, l)

pub raised-requires-2-clause-numbers : goal.raised-requires-2-clause-numbers
raised-requires-2-clause-numbers c i l =
    let a = c.args.self.now.high_are i l in let b = ground_small c.args.self.now.scale (4 + i) in
    omega (arith, a, b, l)
