use Rattle.std.proofs.Common.{arith}
use Rattle.std.proofs.lemmas.Grind.{common_steps}
use Rattle.std.proofs.lemmas.Result.{err_from_is_err_and}
use Rattle.dtx_words.proofs.Printed.{put_more, put_refused, rest_is}
use Rattle.dtx_words.proofs.put.put.Goals as goal

pub returns-in_err-n-clause-written : goal.returns-in_err-n-clause-written
returns-in_err-n-clause-written g c =
    let p = err_from_is_err_and c.from_residual.result c.from_residual.ensures.1 in
    let before = c.loop-done.invariant in
    rw p.1 (put_refused c.args.bytes.now _ c.loop-done.done c.in_err-n.field-0.0 _ _ _
    (rest_is c.args.bytes.now c.loop-done.done) before.in_range before.written c.in_err-n.ensures.bytes)

pub loop-done-preserved : goal.loop-done-preserved
loop-done-preserved g c =
    let before = c.loop-done.invariant in
    let next = rw (rest_is c.args.bytes.now c.loop-done.done) at c.in_ok-n.ensures.bytes in
    record {
      in_range = grind (arith, common_steps);
      written = put_more c.args.bytes.now c.loop-done.done c.in_ok-n.n _ _ _ before.written next;
      counts = grind (arith, common_steps);
    }
