use Rattle.std.proofs.Common.{◌∙◌, ap, length, subst, sym, get_or}
use Rattle.dtx_laws.specs.Words.{IsCorrected}
use Rattle.dtx_fast.proofs.Mending.{mended, three_mended}
use Rattle.dtx_fast.proofs.few.mend_three.Goals as goal

pub returns-then-three_give-clause-mended : goal.returns-then-three_give-clause-mended
returns-then-three_give-clause-mended c t =
    let first = c.in-Some.first in
    let second = c.in-Some.second in
    let third = c.in-Some.third in
    let places = c.if-are_three.ensures.0 t in
    subst (λ xs. IsCorrected (length c.args.word.now) c.args.k c.args.word.now xs 3)
    (sym (c.mend-then-three_give-2.ensures ∙ ap (mended third.error third.place)
    (c.mend-then-three_give.ensures ∙ ap (mended second.error second.place) c.mend.ensures)))
    (three_mended c.args.k first.error first.place second.error second.place third.error third.place c.args.word.now
    (λ i. get_or c.args.syndromes.now i 0) c.requires.bytes places.0 places.1 places.2 places.3 places.4 places.5
    c.if-count-ge6.true c.requires.values (c.if-three_give.ensures.0 t))
