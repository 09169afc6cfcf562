use Rattle.dtx_packet_jobs.proofs.Recipe.{made_unwritten}
use Rattle.dtx_packet_jobs.proofs.make_command.fill_file.Goals as goal

pub returns-in-Err-clause-carried : goal.returns-in-Err-clause-carried
returns-in-Err-clause-carried g c = λ start begun.
    made_unwritten start (g.S.Shelf.files c.write_made.new.shelf) c.args.output.now c.args.seed c.args.count c.in-Err.no
    c.from.result c.ended.result c.from.ensures c.ended.ensures (c.in-Err.ensures.written start begun)
