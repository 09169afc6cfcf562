use Rattle.std.proofs.Common.{◌++◌, sym, subst}
use Rattle.std.proofs.lemmas.List.{take_more}
use Rattle.dtx_packet_jobs.specs.DvbReading.{IsSending}
use Rattle.dtx_packet_jobs.proofs.dvb_coding.DvbCoding.send.Goals as goal

pub returns-then-fours-eq0-clause-sent : goal.returns-then-fours-eq0-clause-sent
returns-then-fours-eq0-clause-sent c = λ given before long is.
    subst (λ ps. IsSending c.send_one.new.self (given ++ ps) before) (sym (take_more c.args.packets.now 0 _
    c.requires.some)) (c.send_one.ensures.sent given before long is)
