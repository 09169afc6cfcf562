use Rattle.std.proofs.Common.{◌≡◌, [], ◌∷◌, length, refl, ap, subst, ◌∙◌}
use Rattle.dtx_engine.specs.Recipe.{meaning_of_file}
use Rattle.dtx_forms.specs.Shapes.{segments}
use Rattle.dtx_recipes.specs.Receive.{receiving, with_corrections}
use Rattle.dtx_recipes.proofs.ReceiveLemmas.{corrections_given}
use Rattle.dtx_packets.specs.Packets.{packets_of}
use Rattle.dtx_words.specs.declared.rows.Command.TheVariants.{Receive}
use Rattle.dtx_file_laws.specs.Back.{IsGivenBack}
use Rattle.dtx_file_laws.specs.Damaged.{IsBurst}
use Rattle.dtx_file_laws.proofs.BothEnds.{are_packets, back_through, holds_bytes}
use Rattle.dtx_file_laws.proofs.Lines.{received_line}
use Rattle.dtx_file_laws.proofs.laws.both_ends.run_of_code_and_receive.Goals as goal

pub returns-clause-undamaged : goal.returns-clause-undamaged
returns-clause-undamaged g c = λ input sent got output stream symbols code receive there coded left here done.
    let are = holds_bytes (g.S.Shelf.files c.args.sender.now) input stream c.known.ensures there in
    let all = back_through with_corrections corrections_given Receive received_line (λ n. n ≡ 0) input sent got output
    stream symbols symbols _ _ (g.S.Shelf.files c.args.sender.now) (g.S.Shelf.files c.run_of_code-sent.new.shelf)
    (g.R.Shelf.files c.args.receiver.now) (g.R.Shelf.files c.run_of_receive-received.new.shelf)
    (g.O.Sink.written c.run_of_code-sent.new.out) (g.O.Sink.written c.run_of_receive-received.new.out)
    (record { there = there; done = coded; files = c.run_of_code-sent.ensures.done input sent stream code }) left
    (record {
      there = here;
      done = done;
      files = c.run_of_receive-received.ensures.done got output symbols receive;
      line = c.run_of_receive-received.ensures.line got output symbols receive;
    })
    (λ same few. (
      ap length same,
      λ some. (
        0,
        refl,
        ap (meaning_of_file segments receiving (output ∷ [])) same
            ∙ c.what_was_coded_is_received.ensures.undamaged (output ∷ []) (packets_of stream) (are_packets stream are)
            some few,
      ),
    )) in
    subst (λ n. IsGivenBack stream n output (g.R.Shelf.files c.run_of_receive-received.new.shelf)
    (g.O.Sink.written c.run_of_receive-received.new.out)) all.1 all.2

pub returns-clause-burst : goal.returns-clause-burst
returns-clause-burst g c = λ input sent got output stream symbols file count from code receive there coded left
    short burst spares here done.
    let are = holds_bytes (g.S.Shelf.files c.args.sender.now) input stream c.known.ensures there in
    let all = back_through with_corrections corrections_given Receive received_line (λ _. Unit {0}) input sent got
    output stream symbols file _ _ (g.S.Shelf.files c.args.sender.now) (g.S.Shelf.files c.run_of_code-sent.new.shelf)
    (g.R.Shelf.files c.args.receiver.now) (g.R.Shelf.files c.run_of_receive-received.new.shelf)
    (g.O.Sink.written c.run_of_code-sent.new.out) (g.O.Sink.written c.run_of_receive-received.new.out)
    (record { there = there; done = coded; files = c.run_of_code-sent.ensures.done input sent stream code }) left
    (record {
      there = here;
      done = done;
      files = c.run_of_receive-received.ensures.done got output file receive;
      line = c.run_of_receive-received.ensures.line got output file receive;
    })
    (λ same few.
    let wrong = subst (λ bytes. IsBurst count from bytes file) same burst in (
      wrong.as_many,
      λ some.
          let back = c.bursts_come_back.ensures.wrong (output ∷ []) (packets_of stream) file count from
          (are_packets stream are) some few short wrong spares in
          (back.0, tt, back.1),
    )) in
    (all.0, all.2)
