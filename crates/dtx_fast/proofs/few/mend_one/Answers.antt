use Rattle.std.proofs.Common.{get_or}
use Rattle.dtx_fast.proofs.Mending.{one_mended}
use Rattle.dtx_fast.proofs.few.mend_one.Goals as goal

pub returns-then-wrong-word-clause-mended : goal.returns-then-wrong-word-clause-mended
returns-then-wrong-word-clause-mended c t =
    rw c.mend.ensures (one_mended c.args.k c.one-wrong.result.error c.one-wrong.result.place c.args.word.now
    (λ i. get_or c.args.syndromes.now i 0) c.requires.code c.requires.bytes c.if-wrong-word.true c.requires.values
    (c.if-one_gives.ensures.0 t))
