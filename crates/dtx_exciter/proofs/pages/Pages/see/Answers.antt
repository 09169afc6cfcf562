use Rattle.std.proofs.Common.{rules}
use Rattle.dtx_exciter.proofs.Turned.{turned}
use Rattle.dtx_exciter.proofs.pages.Pages.see.Goals as goal

pub returns-in-Some : goal.returns-in-Some
returns-in-Some c =
    turned c.args.address c.args.order.now c.in-Some.ops c.args.self.now c.add.new.self c.in-Some.is (search rules)
    c.add.ensures
