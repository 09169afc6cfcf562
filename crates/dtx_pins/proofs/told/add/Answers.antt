use Rattle.std.proofs.Common.{◌≡◌, ◌≢◌, ◌⊎◌, inl, inr, ℕ, pos, ◌+◌, ◌<◌, refl, sym, ap₂, ◌∙◌, subst, arith}
use Rattle.std.proofs.lemmas.Bool.{cases_eq}
use Rattle.dtx_pins.specs.Told.{IsWithin, excess_at, excess_with}
use Rattle.dtx_pins.proofs.ToldLanes.{same_lane}
use Rattle.dtx_pins.proofs.told.add.Goals as goal

pub excess_with-requires-clause-total : goal.excess_with-requires-clause-total
excess_with-requires-clause-total c =
    subst (IsWithin 21459) (sym (c.excess_of.ensures (pos 0) ∙ c.loop-e.invariant.left c.loop-e.e (omega arith)))
    (c.requires.totals c.loop-e.e (omega arith))

pub excess_with-requires-clause-more : goal.excess_with-requires-clause-more
excess_with-requires-clause-more c =
    subst (IsWithin 69) (sym (c.excess_of-more.ensures (pos 0))) (c.requires.lanes c.loop-e.e (omega arith)).small

pub loop-e-preserved : goal.loop-e-preserved
loop-e-preserved c = record {
  totals = λ k l. totals k l (cases_eq k c.loop-e.e);
  left = λ k l. c.put_excess.ensures.others k (pos 0) (λ e. absurd (omega arith))
      ∙ c.loop-e.invariant.left k (omega arith);
}
  where
    totals : (k : ℕ) → k < c.loop-e.e + 1 → (k ≡ c.loop-e.e) ⊎ (k ≢ c.loop-e.e)
        → excess_at c.put_excess.new.excesses k
        ≡ excess_with (excess_at c.args.totals.now k) (excess_at c.args.told.now.more k)
    totals k l (inl e) =
        subst (λ k. excess_at c.put_excess.new.excesses k
        ≡ excess_with (excess_at c.args.totals.now k) (excess_at c.args.told.now.more k)) (sym e)
        (c.put_excess.ensures.written (pos 0) ∙ c.excess_with.ensures
        ∙ ap₂ excess_with (c.excess_of.ensures (pos 0) ∙ c.loop-e.invariant.left c.loop-e.e (omega arith))
        (c.excess_of-more.ensures (pos 0)))
    totals k l (inr n) = c.put_excess.ensures.others k (pos 0) n ∙ c.loop-e.invariant.totals k (omega arith)

pub returns-clause-lanes : goal.returns-clause-lanes
returns-clause-lanes c e l = same_lane _ _ refl refl refl (c.alike-told.ensures e (pos 0) l)
