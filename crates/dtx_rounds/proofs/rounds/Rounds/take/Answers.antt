use Rattle.std.proofs.Common.{◌≡◌, ℕ, nat_le, [], length, sym, ap, ◌∙◌, subst, arith}
use Rattle.std.specs.Vec.{with_items}
use Rattle.dtx_rounds.specs.RunRounds.{on_count, PassesOn}
use Rattle.dtx_rounds.specs.declared.rounds.Rounds.{Rounds}
use Rattle.dtx_rounds.proofs.LaidWords.{items_written}
use Rattle.dtx_rounds.proofs.PassedRounds.{run_of, taken}
use Rattle.dtx_rounds.proofs.rounds.Rounds.take.Goals as goal

pub returns : goal.returns
returns c = record {
  taken = λ scale count t f heard given long same more made h.
      taken scale count t f heard given old new c.pass.result c.pass.new.field made c.pass.ensures.scale kept full
      (passed scale made.scale_is heard given [] t (run_of heard given long same) more made.at h);
}
  where
    old : Rounds
    old = c.args.self.now

    new : Rounds
    new = record { means = c.pass.new.means; rounds = with_items c.args.self.now.rounds c.pass.new.rounds }

    lengths : length c.pass.new.rounds ≡ c.args.self.now.rounds.len
    lengths = omega (arith, c.pass.auto.rounds, c.deref_mut.ensures.len)

    items : new.rounds.items ≡ c.pass.new.rounds
    items = items_written c.args.self.now.rounds c.pass.new.rounds lengths

    kept : length new.rounds.items ≡ length old.rounds.items
    kept = ap length items ∙ c.pass.auto.rounds ∙ ap length c.deref_mut.ensures.value

    full : c.pass.result ≡ nat_le (length old.rounds.items) (on_count old.rounds.items)
    full =
        c.pass.ensures.full ∙ ap (λ rounds. nat_le (length rounds) (on_count rounds)) c.deref_mut.ensures.value

    passed : (scale : ℕ) → old.means.decoder ≡ scale
        → PassesOn scale old.rounds.items c.args.field.now new.rounds.items c.pass.result c.pass.new.field
    passed scale e =
        subst (λ xs. PassesOn scale old.rounds.items c.args.field.now xs c.pass.result c.pass.new.field) (sym items)
        (subst (λ xs. PassesOn scale xs c.args.field.now c.pass.new.rounds c.pass.result c.pass.new.field)
        c.deref_mut.ensures.value (subst (λ s. PassesOn s c.deref_mut.result.now c.args.field.now c.pass.new.rounds
        c.pass.result c.pass.new.field) e c.pass.ensures.passed))
