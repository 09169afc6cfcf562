use Rattle.std.proofs.Common.{[], ◌∷◌}
use Rattle.dtx_file_laws.proofs.Answered.{answered, ended_so, if_so}
use Rattle.dtx_file_laws.proofs.ByWords.{adapt_read, all_named, three_apart}
use Rattle.dtx_file_laws.proofs.laws.calls.run_of_adapt.Goals as goal

pub returns-clause-done : goal.returns-clause-done
returns-clause-done g c = λ plan plan_name input output bytes file is says.
    if_so (g.S.Shelf.files c.args.shelf.now) _ _
    (λ held carried planned there done. answered c.args.words.now _ _ _ _ _ _ (output ∷ []) input file held
    (g.S.Shelf.files c.run.new.shelf) _ _
    (adapt_read c.args.words.now plan_name input output bytes plan held is planned says) there done carried)
    c.run.ensures.carried

pub returns-clause-answer : goal.returns-clause-answer
returns-clause-answer g c = λ plan plan_name input output bytes file is says some other more plan_in plan_out in_out.
    if_so (g.S.Shelf.files c.args.shelf.now) _ _
    (λ held carried planned there. ended_so c.args.words.now _ _ _ _ _ _ (output ∷ []) input file held
    (g.S.Shelf.files c.run.new.shelf) _ _
    (adapt_read c.args.words.now plan_name input output bytes plan held is planned says)
    (all_named plan_name input output some other more)
    (three_apart plan_name input output plan_in plan_out in_out) there carried)
    c.run.ensures.carried
