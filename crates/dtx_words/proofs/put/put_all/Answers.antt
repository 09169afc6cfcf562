use Rattle.std.proofs.Common.{arith, take, drop, suc, ◌++◌, ◌∙◌, ap, sym, refl}
use Rattle.std.proofs.lemmas.Grind.{common_steps}
use Rattle.std.proofs.lemmas.List.{take_all}
use Rattle.std.proofs.lemmas.Result.{err_from_is_err_and}
use Rattle.dtx_words.specs.Printed.{text_of}
use Rattle.dtx_words.proofs.Printed.{printed-none, put_all_more, put_all_refused, text_of-split}
use Rattle.dtx_words.proofs.put.put_all.Goals as goal

pub returns-in_err-put-clause-written : goal.returns-in_err-put-clause-written
returns-in_err-put-clause-written g c =
    let p = err_from_is_err_and c.from_residual.result c.from_residual.ensures.1 in
    let i = c.loop-piece.piece-index in
    let value = c.as_bytes.ensures.value in
    rw p.1 (put_all_refused (text_of c.args.pieces.now) (text_of (take i c.args.pieces.now)) _
    (text_of (drop (suc i) c.args.pieces.now)) c.in_err-put.field-0.0 _ _ _
    (text_of-split c.args.pieces.now i _ (omega arith)
    ∙ ap (λ z. text_of (take i c.args.pieces.now) ++ (z ++ text_of (drop (suc i) c.args.pieces.now))) (sym value))
    c.loop-piece.invariant.written c.in_err-put.ensures.written)

pub returns-clause-written : goal.returns-clause-written
returns-clause-written g c =
    rw (take_all c.loop-piece.piece-index c.args.pieces.now c.loop-piece-test.false) at c.loop-piece.invariant.written

pub loop-piece-preserved : goal.loop-piece-preserved
loop-piece-preserved g c = record {
  written = put_all_more c.args.pieces.now c.loop-piece.piece-index _ c.as_bytes.result.now _ _ _ (omega arith)
      c.as_bytes.ensures.value c.loop-piece.invariant.written c.in_ok-put.ensures.written;
  counts = grind (arith, common_steps);
}

pub loop-piece-init : goal.loop-piece-init
loop-piece-init g c = record { written = sym (printed-none _); counts = refl }
