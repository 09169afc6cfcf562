use Rattle.std.proofs.Common.{[], ◌∷◌}
use Rattle.dtx_file_laws.proofs.Answered.{answered, ended_so, if_so}
use Rattle.dtx_file_laws.proofs.ByWords.{refine_named, refine_read, unlike}
use Rattle.dtx_file_laws.proofs.laws.calls.run_of_refine.Goals as goal

pub returns-clause-done : goal.returns-clause-done
returns-clause-done g c = λ scale rounds input output file is positive most one many.
    if_so (g.S.Shelf.files c.args.shelf.now) _ _
    (λ held carried there done. answered c.args.words.now _ _ _ _ _ _ (output ∷ []) input file held
    (g.S.Shelf.files c.run.new.shelf) _ _
    (refine_read c.args.words.now scale rounds input output held is positive most one many) there done carried)
    c.run.ensures.carried

pub returns-clause-answer : goal.returns-clause-answer
returns-clause-answer g c = λ scale rounds input output file is positive most one many some other apart.
    if_so (g.S.Shelf.files c.args.shelf.now) _ _
    (λ held carried there. ended_so c.args.words.now _ _ _ _ _ _ (output ∷ []) input file held
    (g.S.Shelf.files c.run.new.shelf) _ _
    (refine_read c.args.words.now scale rounds input output held is positive most one many)
    (refine_named scale rounds input output positive most one many some other) (unlike input output apart) there
    carried)
    c.run.ensures.carried
