use Rattle.std.proofs.Common.{[], ◌∷◌, sym, ◌∙◌}
use Rattle.dtx_file_laws.proofs.BothEnds.{told_so}
use Rattle.dtx_file_laws.proofs.Excited.{few_read, two_hold}
use Rattle.dtx_file_laws.proofs.laws.exciting.run_of_excite_of_a_feed.Goals as goal

pub returns : goal.returns
returns g c = λ plan stream t delay earlier mark n k input output log file is address_small delay_small apart fed holds
    listing there done.
    told_so (g.S.Shelf.files c.args.shelf.now) input file _ _ there
    (c.run_of_excite.ensures.done t.address delay input output log file is address_small delay_small)
    (λ held _ found of.
    let answered = of found done in
    two_hold _ output log _ _ held (g.S.Shelf.files c.run_of_excite.new.shelf) _ apart
    (c.a_feed_is_sent.ensures.listed plan stream t delay earlier mark n k (output ∷ log ∷ []) file
    (few_read t.address delay (output ∷ log ∷ []) file (sym answered.answer ∙ done)) fed holds listing).outputs
    answered)
