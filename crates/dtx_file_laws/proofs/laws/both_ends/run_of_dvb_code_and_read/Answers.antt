use Rattle.std.proofs.Common.{[], ◌∷◌, subst}
use Rattle.dtx_file_laws.specs.Damaged.{IsBurst}
use Rattle.dtx_file_laws.proofs.BothEnds.{holds_bytes}
use Rattle.dtx_file_laws.proofs.DvbEnds.{read_through}
use Rattle.dtx_file_laws.proofs.laws.both_ends.run_of_dvb_code_and_read.Goals as goal

pub returns : goal.returns
returns g c = λ input sent got output stream bytes file from code read there coded left burst here done.
    let are = holds_bytes (g.S.Shelf.files c.args.sender.now) input stream c.known.ensures there in
    read_through c.all_is_sent.ensures.whole input sent got output stream bytes file _ _
    (g.S.Shelf.files c.args.sender.now) (g.S.Shelf.files c.run_of_dvb_code-sent.new.shelf)
    (g.R.Shelf.files c.args.receiver.now) (g.R.Shelf.files c.run_of_dvb_read-read.new.shelf)
    (g.O.Sink.written c.run_of_dvb_code-sent.new.out) (g.O.Sink.written c.run_of_dvb_read-read.new.out) are
    (record { there = there; done = coded; files = c.run_of_dvb_code-sent.ensures.done input sent stream code }) left
    (record {
      there = here;
      done = done;
      files = c.run_of_dvb_read-read.ensures.done got output file read;
      line = c.run_of_dvb_read-read.ensures.line got output file read;
    })
    (λ same few packets. c.a_burst_is_read.ensures (output ∷ []) stream file from few packets
    (subst (λ sent_bytes. IsBurst 96 from sent_bytes file) same burst))
