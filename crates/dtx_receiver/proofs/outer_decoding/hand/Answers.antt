use Rattle.std.proofs.Common.{rules}
use Rattle.dtx_receiver.proofs.outer_decoding.hand.Goals as goal

pub returns-in-Bad-clause-packets : goal.returns-in-Bad-clause-packets
returns-in-Bad-clause-packets c = search rules
