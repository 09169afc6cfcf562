use Rattle.std.proofs.Common.{[], ◌∷◌}
use Rattle.dtx_file_laws.proofs.Answered.{answered, ended_so, lined, if_so}
use Rattle.dtx_file_laws.proofs.ByWords.{both_named, dvb_read_read, unlike}
use Rattle.dtx_file_laws.proofs.laws.calls.run_of_dvb_read.Goals as goal

pub returns-clause-done : goal.returns-clause-done
returns-clause-done g c = λ input output file is.
    if_so (g.S.Shelf.files c.args.shelf.now) _ _
    (λ held carried there done. answered c.args.words.now _ _ _ _ _ _ (output ∷ []) input file held
    (g.S.Shelf.files c.run.new.shelf) _ _ (dvb_read_read c.args.words.now input output held is) there done carried)
    c.run.ensures.carried

pub returns-clause-answer : goal.returns-clause-answer
returns-clause-answer g c = λ input output file is some other apart.
    if_so (g.S.Shelf.files c.args.shelf.now) _ _
    (λ held carried there. ended_so c.args.words.now _ _ _ _ _ _ (output ∷ []) input file held
    (g.S.Shelf.files c.run.new.shelf) _ _ (dvb_read_read c.args.words.now input output held is)
    (both_named input output some other) (unlike input output apart) there carried)
    c.run.ensures.carried

pub returns-clause-line : goal.returns-clause-line
returns-clause-line g c = λ input output file is.
    if_so (g.S.Shelf.files c.args.shelf.now) _ _
    (λ held line there done. lined c.args.words.now _ _ _ _ _ _ (output ∷ []) input file held
    (g.O.Sink.written c.args.out.now) (g.O.Sink.written c.run.new.out) _ _ _
    (dvb_read_read c.args.words.now input output held is) there done line)
    c.run.ensures.line
