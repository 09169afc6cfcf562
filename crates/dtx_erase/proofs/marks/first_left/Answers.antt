use Rattle.std.proofs.Common.{length, refl, arith}
use Rattle.dtx_erase.proofs.Marked.{length_marked}
use Rattle.dtx_erase.proofs.marks.first_left.Goals as goal

pub returns-clause-rest : goal.returns-clause-rest
returns-clause-rest c i l =
    c.cancelled.ensures.rest i
    (omega (arith, l, c.requires.known, length_marked (length c.args.marks.now) c.args.marks.now refl))
