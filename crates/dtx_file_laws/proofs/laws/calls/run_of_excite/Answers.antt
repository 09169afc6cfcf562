use Rattle.std.proofs.Common.{[], ◌∷◌}
use Rattle.dtx_file_laws.proofs.Answered.{answered, ended_so, if_so}
use Rattle.dtx_file_laws.proofs.ByWords.{excite_named, excite_read, three_apart}
use Rattle.dtx_file_laws.proofs.laws.calls.run_of_excite.Goals as goal

pub returns-clause-done : goal.returns-clause-done
returns-clause-done g c = λ address delay input output log file is small_address small_delay.
    if_so (g.S.Shelf.files c.args.shelf.now) _ _
    (λ held carried there done. answered c.args.words.now _ _ _ _ _ _ (output ∷ log ∷ []) input file held
    (g.S.Shelf.files c.run.new.shelf) _ _
    (excite_read c.args.words.now address delay input output log held is small_address small_delay) there done carried)
    c.run.ensures.carried

pub returns-clause-answer : goal.returns-clause-answer
returns-clause-answer g c = λ address delay input output log file is small_address small_delay some other more in_out
    in_log out_log.
    if_so (g.S.Shelf.files c.args.shelf.now) _ _
    (λ held carried there. ended_so c.args.words.now _ _ _ _ _ _ (output ∷ log ∷ []) input file held
    (g.S.Shelf.files c.run.new.shelf) _ _
    (excite_read c.args.words.now address delay input output log held is small_address small_delay)
    (excite_named address delay input output log small_address small_delay some other more)
    (three_apart input output log in_out in_log out_log) there carried)
    c.run.ensures.carried
