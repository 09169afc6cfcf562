use Rattle.std.proofs.Common.{ap₂, ◌++◌, sym, List, ℕ}
use Rattle.std.specs.Prelude.{codes}
use Rattle.std.proofs.lemmas.Result.{err_from_is_err_and}
use Rattle.dtx_words.specs.Line.{numbered}
use Rattle.dtx_words.proofs.Printed.{so_far_last, so_far_none, so_far_refused, so_far_then}
use Rattle.dtx_words.proofs.lines.put_done.Goals as goal

pub returns-in_err-put_numbered-clause-written : goal.returns-in_err-put_numbered-clause-written
returns-in_err-put_numbered-clause-written g c =
    let p = err_from_is_err_and c.from_residual.result c.from_residual.ensures.1 in
    rw p.1 (so_far_refused _ _ _ (codes "\n") c.in_err-put_numbered.field-0.0 _ _ _
    (ap₂ (λ (labels : List (List ℕ)) (numbers : List ℕ). numbered labels numbers ++ codes "\n")
    (sym c.labels.ensures) (sym c.as_slice.ensures))
    (so_far_none _ _) c.in_err-put_numbered.ensures.written)

pub returns-clause-written : goal.returns-clause-written
returns-clause-written g c =
    so_far_last _ _ _ _ _ _
    (so_far_then _ _ _ (codes "\n") _ _ _
    (ap₂ (λ (labels : List (List ℕ)) (numbers : List ℕ). numbered labels numbers ++ codes "\n")
    (sym c.labels.ensures) (sym c.as_slice.ensures))
    (so_far_none _ _) c.in_ok-put_numbered.ensures.written)
    c.put_all.ensures.written
