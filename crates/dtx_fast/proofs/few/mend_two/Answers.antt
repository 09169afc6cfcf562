use Rattle.std.proofs.Common.{◌∙◌, ap, get_or}
use Rattle.dtx_fast.proofs.Mending.{mended, two_mended}
use Rattle.dtx_fast.proofs.few.mend_two.Goals as goal

pub returns-then-two_give-clause-mended : goal.returns-then-two_give-clause-mended
returns-then-two_give-clause-mended c t =
    let first = c.in-Some.first in
    let second = c.in-Some.second in
    let places = c.if-are_two.ensures.0 t in
    rw (c.mend-then-two_give.ensures ∙ ap (mended second.error second.place) c.mend.ensures)
    (two_mended c.args.k first.error first.place second.error second.place c.args.word.now
    (λ i. get_or c.args.syndromes.now i 0) c.requires.bytes places.0 places.1 places.2 c.if-count-ge4.true
    c.requires.values (c.if-two_give.ensures.0 t))
