use Rattle.std.proofs.Common.{arith}
use Rattle.std.proofs.lemmas.Grind.{common_steps}
use Rattle.std.proofs.lemmas.Result.{err_from_is_err_and}
use Rattle.dtx_make.specs.Made.{made_stream}
use Rattle.dtx_packet_jobs.proofs.Recipe.{made_none, made_on, made_part}
use Rattle.dtx_packet_jobs.proofs.make_command.write_made.Goals as goal

pub loop-index-init : goal.loop-index-init
loop-index-init g c = record {
  written = λ start begun. made_none start (g.S.Shelf.files c.args.shelf.now) c.args.output.now c.args.made.now
      c.args.seed c.requires begun;
  gone = grind (arith, common_steps);
}

pub returns-in_err-write-clause-written : goal.returns-in_err-write-clause-written
returns-in_err-write-clause-written g c = λ start begun.
    let p = err_from_is_err_and c.from_residual.result c.from_residual.ensures.1 in
    let i = c.loop-index.index in
    rw p.1 (made_part start (g.S.Shelf.files c.write.new.shelf) c.args.output.now c.packet-next.result.0 c.args.seed i
    c.args.count (omega arith) c.packet-next.ensures
    (c.in_err-write.ensures.written start (made_stream c.args.seed i) (c.loop-index.invariant.written start begun)))

pub loop-index-preserved : goal.loop-index-preserved
loop-index-preserved g c = record {
  written = λ start begun.
      let i = c.loop-index.index in
      made_on start (g.S.Shelf.files c.write.new.shelf) c.args.output.now c.write.new.self c.packet-next.result.0
      c.args.seed i c.packet-next.ensures
      (c.in_ok-write.ensures.written start (made_stream c.args.seed i) (c.loop-index.invariant.written start begun));
  gone = grind (arith, common_steps);
}
