use Rattle.std.proofs.Common.{arith}
use Rattle.std.proofs.lemmas.Grind.{common_steps}
use Rattle.std.proofs.lemmas.Result.{err_from_is_err_and}
use Rattle.dtx_words.proofs.LinePieces.{numbered_end, numbered_next}
use Rattle.dtx_words.proofs.Printed.{so_far_all, so_far_as, so_far_refused, so_far_then}
use Rattle.dtx_words.proofs.lines.put_numbered.Goals as goal

pub returns-in_err-put_number-clause-written : goal.returns-in_err-put_number-clause-written
returns-in_err-put_number-clause-written g c =
    let p = err_from_is_err_and c.from_residual.result c.from_residual.ensures.1 in
    rw p.1 (so_far_refused _ _ _ _ c.in_err-put_number.field-0.0 _ _ _
    (numbered_next c.args.labels.now c.args.numbers.now c.loop-i.i _ (omega arith) (omega arith))
    c.loop-i.invariant.written c.in_err-put_number.ensures.written)

pub loop-i-preserved : goal.loop-i-preserved
loop-i-preserved g c = record {
  written = so_far_then _ _ _ _ _ _ _
      (numbered_next c.args.labels.now c.args.numbers.now c.loop-i.i _ (omega arith) (omega arith))
      c.loop-i.invariant.written c.in_ok-put_number.ensures.written;
  counts = grind (arith, common_steps);
}

pub returns-clause-written : goal.returns-clause-written
returns-clause-written g c = so_far_all _ _ _
    (so_far_as _ _ _ _ _ (numbered_end c.args.labels.now c.args.numbers.now c.loop-i.i (omega arith))
    c.loop-i.invariant.written)
