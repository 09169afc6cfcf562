use Rattle.std.proofs.Common.{◌≡◌, ◌∙◌, ◌+◌, [], get_or, length, sym, ap, subst, arith}
use Rattle.std.proofs.lemmas.List.{get_or_default}
use Rattle.dtx_slice.specs.Slicing.{sliced_last}
use Rattle.dtx_rounds.specs.Known.{known_word}
use Rattle.dtx_rounds.specs.RunField.{Holds, IsRounded}
use Rattle.dtx_rounds.specs.FieldRound.{IsWritten}
use Rattle.dtx_rounds.proofs.FoundFields.{in_run_unchanged}
use Rattle.dtx_rounds.proofs.HeldFields.{held_next}
use Rattle.dtx_rounds.proofs.LaidWords.{decided_items}
use Rattle.dtx_rounds.proofs.round.Round.next.Goals as goal

pub returns-clause-rounded : goal.returns-clause-rounded
returns-clause-rounded c = λ heard given before f long stays more h k.
    let both = held_next c.args.means.now.decoder f heard given before c.args.self.now.held c.write_bytes.new.field
    c.turn.new.held c.turn.new.next long stays more h (in_run_unchanged c.args.means.now.decoder (f + 1) heard given
    (known_word before) c.args.field.now c.write_bytes.new.field c.write_bytes.ensures.rest k) c.turn.ensures.long
    (subst (λ levels. IsWritten c.write_bytes.new.field.count c.write_bytes.new.field.decided.items levels
    c.write_bytes.new.field.bytes.items) last c.write_bytes.ensures.written) c.turn.ensures.turned in (
      subst (IsRounded c.args.means.now.decoder heard given f) (sym c.swap.ensures.y_after) both.0,
      subst (Holds c.args.means.now.decoder heard given before (f + 1)) (sym c.swap.ensures.x_after) both.1,
    )
  where
    rows : length c.args.self.now.held.decided.items ≡ 313
    rows = decided_items c.args.self.now.held

    last : c.last_levels-last.result ≡ sliced_last (get_or c.args.self.now.held.decided.items 312 [])
    last =
        c.last_levels-last.ensures.levels
        ∙ ap sliced_last (c.index.ensures
        ∙ get_or_default c.args.self.now.held.decided.items 312 c.index.result.now [] (omega (arith, rows)))
