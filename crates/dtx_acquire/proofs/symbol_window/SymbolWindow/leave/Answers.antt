use Rattle.std.proofs.Common.{◌≡◌, ◌≤◌, ◌∙◌, ap, arith, drop, length, rules}
use Rattle.std.proofs.lemmas.List.{length-take}
use Rattle.dtx_acquire.proofs.Moved.{moved_is}
use Rattle.dtx_acquire.proofs.symbol_window.SymbolWindow.leave.Goals as goal

pub returns : goal.returns
returns c =
    let items = c.self.inside.symbols.items in
    let long = ap length c.self.view_is in
    let short = length-take c.self.inside.filled items in
    let room : c.self.inside.filled ≤ length items = omega (arith, c.self.invariant.0, c.self.invariant.1) in
    let within : c.args.count ≤ c.self.inside.filled = omega (arith, c.requires, long, short) in
    let same : length c.copy_within.new.self.items ≡ length items = search rules in
    moved_is items c.copy_within.new.self.items c.self.inside.filled c.args.count room within
    same c.copy_within.ensures.by_index.0
    ∙ ap (drop c.args.count) c.self.view_is
