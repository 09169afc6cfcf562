use Rattle.std.proofs.Common.{◌∙◌, ◌+◌, ◌++◌, ◌∷◌, sym, ap, arith, map}
use Rattle.std.proofs.lemmas.List.{append-nil}
use Rattle.std.proofs.lemmas.Grind.{common_steps}
use Rattle.dtx_words.specs.declared.rows.Field.TheVariants.{Input}
use Rattle.dtx_words.proofs.FileNames.{at_file, at_other, at_end, names_from, names_more}
use Rattle.dtx_words.proofs.names.names_at.Goals as goal
use Rattle.dtx_words.proofs.names.names_at.Goals.{then-is_file, else-is_file}

pub loop-i-preserved : goal.loop-i-preserved
loop-i-preserved c = elim c.if-is_file.branch [
  | then-is_file w ↦ record {
    count = rw w.names-is (omega (arith, w.push.ensures.len));
    names = rw (w.names-is, w.push.ensures.items) (names_more c.loop-i.names.items w.as_str.result _ _ _
        (at_file c.args.fields.now c.args.words.now c.loop-i.i Input w.index-words-i.result (omega arith) (omega arith)
        (sym c.is_file.ensures ∙ w.if-is_file.true)
        ∙ ap (λ z. z ∷ names_from c.args.fields.now c.args.words.now (c.loop-i.i + 1)) (sym w.index-words-i.is
        ∙ sym w.as_str.ensures))
        c.loop-i.invariant.names);
  }
  | else-is_file w ↦ record {
    count = grind (arith, common_steps);
    names = rw w.names-is (ap (λ z. map (λ name. name.now) c.loop-i.names.items
        ++ z) (sym (at_other c.args.fields.now c.args.words.now c.loop-i.i Input (omega arith) (omega arith)
        (sym c.is_file.ensures ∙ w.if-is_file.false))) ∙ c.loop-i.invariant.names);
  }
]

pub returns : goal.returns
returns c =
    sym (append-nil _)
    ∙ ap (λ z. map (λ name. name.now) c.loop-i.names.items
    ++ z) (sym (at_end c.args.fields.now c.args.words.now c.loop-i.i (omega arith)))
    ∙ c.loop-i.invariant.names
