use Rattle.std.proofs.Common.{◌≡◌, ◌∙◌, ℕ, ◌+◌, ◌<◌, ◌||◌, false, List, pos, length, drop, get_or, ap, sym, arith}
use Rattle.std.proofs.lemmas.List.{at_drop_more}
use Rattle.dtx_ops.specs.declared.fields.Entry.{Entry}
use Rattle.dtx_ops.specs.Reading.{is_among, has_twice}
use Rattle.dtx_ops.proofs.Writes.{to_end}
use Rattle.dtx_ops.proofs.rules.has_twice.Goals as goal

twice_behind : (entries : List Entry) (i : ℕ) (none : Entry) → i < length entries
    → is_among (get_or entries i none).address (drop (i + 1) entries) ≡ false
    → has_twice (drop i entries) ≡ has_twice (drop (i + 1) entries)
twice_behind entries i none l e =
    at_drop_more has_twice entries i none l ∙ ap (λ b. b || has_twice (drop (i + 1) entries)) e

pub loop-i-preserved : goal.loop-i-preserved
loop-i-preserved c =
    let entries : List Entry = c.args.entries.now in
    let e : Entry = record { address = 0; offset = pos 0 } in
    sym (twice_behind entries c.loop-i.i e (omega arith)
    (ap (is_among (get_or entries c.loop-i.i e).address) (sym (to_end (c.loop-i.i + 1) entries))
    ∙ sym c.is_among.ensures ∙ c.if-is_among.false))
    ∙ c.loop-i.invariant
