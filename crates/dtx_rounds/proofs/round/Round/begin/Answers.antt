use Rattle.std.proofs.Common.{◌≡◌, ◌∙◌, [], get_or, length, sym, ap, subst, arith}
use Rattle.std.proofs.lemmas.List.{get_or_default}
use Rattle.dtx_slice.specs.Slicing.{sliced_last}
use Rattle.dtx_rounds.specs.Known.{known_word}
use Rattle.dtx_rounds.specs.RunField.{Holds}
use Rattle.dtx_rounds.specs.FieldRound.{IsWritten}
use Rattle.dtx_rounds.proofs.FoundFields.{in_run_unchanged}
use Rattle.dtx_rounds.proofs.HeldFields.{held_first}
use Rattle.dtx_rounds.proofs.LaidWords.{decided_items}
use Rattle.dtx_rounds.proofs.round.Round.begin.Goals as goal

pub returns-clause-holds : goal.returns-clause-holds
returns-clause-holds c = λ scale heard given before long some h.
    subst (Holds scale heard given before 0) (sym c.swap.ensures.x_after)
    (held_first scale heard given before c.write_bytes.new.field long some
    (in_run_unchanged scale 0 heard given (known_word before) c.args.field.now c.write_bytes.new.field
    c.write_bytes.ensures.rest h) (subst (λ levels. IsWritten c.write_bytes.new.field.count
    c.write_bytes.new.field.decided.items levels c.write_bytes.new.field.bytes.items) last
    c.write_bytes.ensures.written))
  where
    rows : length c.args.field.now.decided.items ≡ 313
    rows = decided_items c.args.field.now

    last : c.last_levels-last.result ≡ sliced_last (get_or c.write_bytes.new.field.decided.items 0 [])
    last =
        c.last_levels-last.ensures.levels
        ∙ ap sliced_last (c.index.ensures
        ∙ get_or_default c.args.field.now.decided.items 0 c.index.result.now [] (omega (arith, rows))
        ∙ ap (λ v. get_or v.items 0 []) (sym c.write_bytes.ensures.rest.decided))
