use Rattle.std.proofs.Common.{arith, ◌∷◌, [], refl}
use Rattle.std.proofs.lemmas.Grind.{common_steps}
use Rattle.std.proofs.lemmas.Result.{err_from_is_err_and}
use Rattle.dtx_words.specs.Rows.{first_words}
use Rattle.dtx_words.proofs.LinePieces.{verbs_end, verbs_next}
use Rattle.dtx_words.proofs.Printed.{so_far_as, so_far_last, so_far_refused, so_far_then}
use Rattle.dtx_words.proofs.lines.put_usage.Goals as goal

pub returns-in_err-put_verb-clause-written : goal.returns-in_err-put_verb-clause-written
returns-in_err-put_verb-clause-written g c =
    let p = err_from_is_err_and c.from_residual.result c.from_residual.ensures.1 in
    rw p.1 (so_far_refused _ _ _ _ c.in_err-put_verb.field-0.0 _ _ _
    (verbs_next c.loop-command.before.now first_words c.loop-command.command-index _ (omega arith))
    c.loop-command.invariant.written c.in_err-put_verb.ensures.written)

pub loop-command-preserved : goal.loop-command-preserved
unfolding lib.Utf8.encode
loop-command-preserved g c = record {
  written = so_far_then _ _ _ _ _ _ _
      (verbs_next c.loop-command.before.now first_words c.loop-command.command-index _ (omega arith))
      c.loop-command.invariant.written c.in_ok-put_verb.ensures.written;
  text = (124 ∷ [], (refl, refl));
  counts = grind (arith, common_steps);
}

pub returns-clause-written : goal.returns-clause-written
returns-clause-written g c =
    so_far_last _ _ _ _ _ _
    (so_far_as _ _ _ _ _ (verbs_end c.loop-command.before.now first_words c.loop-command.command-index (omega arith))
    c.loop-command.invariant.written)
    c.put_all.ensures.written
