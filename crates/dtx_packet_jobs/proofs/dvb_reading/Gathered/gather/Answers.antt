use Rattle.dtx_packet_jobs.proofs.DvbReads.{gathered_on}
use Rattle.std.proofs.Common.{ap, ◌++◌, ◌∙◌, ◌+◌, ℕ}
use Rattle.dtx_packet_jobs.proofs.dvb_reading.Gathered.gather.Goals as goal

pub returns-clause-gathered : goal.returns-clause-gathered
returns-clause-gathered c = λ reads before was.
    gathered_on c.args.self.now _ c.args.taken c.args.packet.now reads before was
    (ap (λ (n : ℕ). c.args.self.now.fixed + n) c.fixed_by.ensures.fixed)
    (ap (λ (n : ℕ). c.args.self.now.flagged + n) c.flagged_by.ensures.flagged)
    (c.push.ensures ∙ ap (λ z. c.args.self.now.packets ++ z) c.bytes_given.ensures.bytes)
