use Rattle.std.proofs.Common.{◌≡◌, ℕ, [], length, sym, ap, ◌∙◌, subst, arith}
use Rattle.std.specs.Vec.{with_items}
use Rattle.dtx_rounds.specs.RunRounds.{EndsOn}
use Rattle.dtx_rounds.specs.declared.rounds.Rounds.{Rounds}
use Rattle.dtx_rounds.proofs.LaidWords.{items_written}
use Rattle.dtx_rounds.proofs.PassedRounds.{run_of, finished}
use Rattle.dtx_rounds.proofs.rounds.Rounds.finish.Goals as goal

pub returns : goal.returns
returns c = record {
  finished = λ scale count t f heard given long same all made.
      finished scale count t f heard given old new c.end.result c.end.new.field made c.end.ensures.scale kept
      (ended scale made.scale_is heard given [] t (run_of heard given long same) all made.at);
}
  where
    old : Rounds
    old = c.args.self.now

    new : Rounds
    new = record { means = c.end.new.means; rounds = with_items c.args.self.now.rounds c.end.new.rounds }

    lengths : length c.end.new.rounds ≡ c.args.self.now.rounds.len
    lengths = omega (arith, c.end.auto.rounds, c.deref_mut.ensures.len)

    items : new.rounds.items ≡ c.end.new.rounds
    items = items_written c.args.self.now.rounds c.end.new.rounds lengths

    kept : length new.rounds.items ≡ length old.rounds.items
    kept = ap length items ∙ c.end.auto.rounds ∙ ap length c.deref_mut.ensures.value

    ended : (scale : ℕ) → old.means.decoder ≡ scale
        → EndsOn scale old.rounds.items new.rounds.items c.end.result c.end.new.field
    ended scale e =
        subst (λ xs. EndsOn scale old.rounds.items xs c.end.result c.end.new.field) (sym items)
        (subst (λ xs. EndsOn scale xs c.end.new.rounds c.end.result c.end.new.field) c.deref_mut.ensures.value
        (subst (λ s. EndsOn s c.deref_mut.result.now c.end.new.rounds c.end.result c.end.new.field) e
        c.end.ensures.ended))
