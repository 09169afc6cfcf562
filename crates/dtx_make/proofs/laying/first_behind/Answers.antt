use Rattle.std.proofs.Common.{◌≡◌, ℕ, ◌<◌, ◌≤◌, ◌↔◌, ◌⊎◌, Bool, true, false, inl, inr, arith, rules}
use Rattle.std.proofs.lemmas.Bool.{cases_lt, iff_false}
use Rattle.dtx_make.proofs.EntriesLemmas.{end_by, end_behind}
use Rattle.dtx_make.proofs.laying.first_behind.Goals as goal

behind : (b : Bool) (place end : ℕ) → ((b ≡ true) ↔ (end ≤ place)) → b ≡ false → place < end
behind b place end ends less = by_place (cases_lt place end)
  where
    by_place : (place < end) ⊎ (end ≤ place) → place < end
    by_place (inl later) = later
    by_place (inr sooner) = absurd (iff_false ends less sooner)

pub loop-low-preserved-then-ends_by : goal.loop-low-preserved-then-ends_by
loop-low-preserved-then-ends_by c = record {
  order = omega arith;
  within = c.loop-low.invariant.within;
  before = end_by c.args.damage.now c.get.result _ c.args.place c.requires.in_order c.get.ensures (search rules)
      (omega (arith, c.loop-low.invariant.within));
  behind = c.loop-low.invariant.behind;
}

pub loop-low-preserved : goal.loop-low-preserved
loop-low-preserved c = record {
  order = omega arith;
  within = omega (arith, c.loop-low.invariant.within);
  before = c.loop-low.invariant.before;
  behind = end_behind c.args.damage.now c.get.result _ c.args.place c.requires.in_order c.get.ensures
      (behind c.ends_by.result c.args.place _ c.ends_by.ensures c.if-ends_by.false);
}
