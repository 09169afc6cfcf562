use Rattle.std.proofs.Common.{◌≡◌, [], ◌∷◌, refl, ap, subst}
use Rattle.dtx_meaning.specs.Meaning.{Meaning}
use Rattle.dtx_recipes.specs.Receive.{with_corrections}
use Rattle.dtx_recipes.proofs.ReceiveLemmas.{corrections_given}
use Rattle.dtx_recipes.specs.SymbolFile.{symbol_bytes}
use Rattle.dtx_packets.specs.Packets.{packets_of}
use Rattle.dtx_words.specs.declared.rows.Command.TheVariants.{Receive}
use Rattle.dtx_file_laws.specs.Back.{IsGivenBack}
use Rattle.dtx_file_laws.proofs.BothEnds.{are_packets, back_through, coded_is, enough_packets, few_packets}
use Rattle.dtx_file_laws.proofs.BothEnds.{holds_bytes, meant_done, told_so}
use Rattle.dtx_file_laws.proofs.Lines.{received_line}
use Rattle.dtx_file_laws.proofs.laws.both_ends.run_there_and_back.Goals as goal

pub returns-clause-back : goal.returns-clause-back
returns-clause-back g c = λ input sent output stream code receive there coded done.
    let are = holds_bytes (g.S.Shelf.files c.args.shelf.now) input stream c.known.ensures there in
    let symbols = symbol_bytes (packets_of stream) in
    let before = g.S.Shelf.files c.args.shelf.now in
    let between = g.S.Shelf.files c.run_of_code-sent.new.shelf in
    let after = g.S.Shelf.files c.run_of_receive-received.new.shelf in
    let call = c.run_of_code-sent.ensures.done input sent stream code in
    let left = coded_is input sent stream _ before between (record { there = there; done = coded; files = call }) in
    let all = back_through with_corrections corrections_given Receive received_line (λ n. n ≡ 0) input sent sent output
    stream symbols symbols _ _ before between between after (g.O.Sink.written c.run_of_code-sent.new.out)
    (g.O.Sink.written c.run_of_receive-received.new.out)
    (record { there = there; done = coded; files = call }) left.1
    (record {
      there = left.1;
      done = done;
      files = c.run_of_receive-received.ensures.done sent output symbols receive;
      line = c.run_of_receive-received.ensures.line sent output symbols receive;
    })
    (λ same few. (
      refl,
      λ some. (
        0,
        refl,
        c.what_was_coded_is_received.ensures.undamaged (output ∷ []) (packets_of stream) (are_packets stream are) some
            few,
      ),
    )) in
    subst (λ n. IsGivenBack stream n output after (g.O.Sink.written c.run_of_receive-received.new.out)) all.1 all.2

pub returns-clause-first : goal.returns-clause-first
returns-clause-first g c = λ input sent stream code some other apart few can there.
    told_so (g.S.Shelf.files c.args.shelf.now) input stream _ _ there
    (c.run_of_code-sent.ensures.answer input sent stream code some other apart)
    (λ held _ here of. meant_done _ _ (of here) (c.a_stream_is_coded.ensures (sent ∷ []) stream few can).done)

pub returns-clause-second : goal.returns-clause-second
returns-clause-second g c = λ input sent output stream code receive some other apart enough there coded.
    let are = holds_bytes (g.S.Shelf.files c.args.shelf.now) input stream c.known.ensures there in
    let symbols = symbol_bytes (packets_of stream) in
    let between = g.S.Shelf.files c.run_of_code-sent.new.shelf in
    let left = coded_is input sent stream _ (g.S.Shelf.files c.args.shelf.now) between (record {
      there = there;
      done = coded;
      files = c.run_of_code-sent.ensures.done input sent stream code;
    }) in
    told_so between sent symbols _ _ left.1
    (c.run_of_receive-received.ensures.answer sent output symbols receive some other apart)
    (λ held _ here of. meant_done _ _ (of here) (ap (λ (m : Meaning). m.outcome.status)
    (c.what_was_coded_is_received.ensures.undamaged (output ∷ []) (packets_of stream) (are_packets stream are)
    (enough_packets stream enough) (few_packets stream left.0))))
