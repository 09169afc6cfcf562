use Rattle.std.proofs.Common.{[], ◌∷◌, subst}
use Rattle.dtx_recipes.specs.Mend.{with_mendings}
use Rattle.dtx_recipes.proofs.MendLemmas.{mendings_given}
use Rattle.dtx_packets.specs.Packets.{packets_of}
use Rattle.dtx_words.specs.declared.rows.Command.TheVariants.{Mend}
use Rattle.dtx_file_laws.specs.Damaged.{IsGap}
use Rattle.dtx_file_laws.proofs.BothEnds.{are_packets, back_through, holds_bytes}
use Rattle.dtx_file_laws.proofs.Lines.{mended_line}
use Rattle.dtx_file_laws.proofs.laws.both_ends.run_of_code_and_mend.Goals as goal

pub returns : goal.returns
returns g c = λ input sent got output stream symbols file count from code mend there coded left short gap
    spares here done.
    let are = holds_bytes (g.S.Shelf.files c.args.sender.now) input stream c.known.ensures there in
    let all = back_through with_mendings mendings_given Mend mended_line (λ _. Unit {0}) input sent got output stream
    symbols file _ _ (g.S.Shelf.files c.args.sender.now) (g.S.Shelf.files c.run_of_code-sent.new.shelf)
    (g.R.Shelf.files c.args.receiver.now) (g.R.Shelf.files c.run_of_mend-mended.new.shelf)
    (g.O.Sink.written c.run_of_code-sent.new.out) (g.O.Sink.written c.run_of_mend-mended.new.out)
    (record { there = there; done = coded; files = c.run_of_code-sent.ensures.done input sent stream code }) left
    (record {
      there = here;
      done = done;
      files = c.run_of_mend-mended.ensures.done got output file mend;
      line = c.run_of_mend-mended.ensures.line got output file mend;
    })
    (λ same few.
    let missing = subst (λ bytes. IsGap count from bytes file) same gap in (
      missing.as_many,
      λ some.
          let back = c.bursts_come_back.ensures.missing (output ∷ []) (packets_of stream) file count from
          (are_packets stream are) some few short missing spares in
          (back.0, tt, back.1),
    )) in
    (all.0, all.2)
