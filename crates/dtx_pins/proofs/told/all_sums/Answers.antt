use Rattle.std.proofs.Common.{◌≡◌, ℕ, ◌+◌, ◌*◌, ◌<◌, [], pos, ◌-ℤ◌, ap, ◌∙◌, arith}
use Rattle.std.proofs.lemmas.List.{length-set}
use Rattle.dtx_soft.proofs.WritesLemmas.{by_entry}
use Rattle.dtx_pins.specs.Steps.{cost_at}
use Rattle.dtx_pins.specs.Told.{excess_at, from_beginning, less_by}
use Rattle.dtx_pins.proofs.told.all_sums.Goals as goal

pub loop-e-preserved : goal.loop-e-preserved
loop-e-preserved c = record {
  long = length-set c.loop-e.sums c.loop-e.e c.coder_sums.result ∙ c.loop-e.invariant.long;
  done = λ k l. by_entry (λ k sums. (p a b : ℕ) → p < 2 → a < 2 → b < 2 → pos (cost_at sums p (2 * a + b))
      ≡ (pos 1_000_000_000 -ℤ less_by p a b (from_beginning c.args.segments (excess_at c.args.totals.now k))))
      c.loop-e.sums c.loop-e.e c.coder_sums.result (omega (arith, c.loop-e.invariant.long))
      here k [] (λ n. c.loop-e.invariant.done k (omega arith));
}
  where
    same : c.from_beginning.result ≡ from_beginning c.args.segments (excess_at c.args.totals.now c.loop-e.e)
    same = c.from_beginning.ensures ∙ ap (from_beginning c.args.segments) (c.excess_of.ensures (pos 0))

    here : (p a b : ℕ) → p < 2 → a < 2 → b < 2 → pos (cost_at c.coder_sums.result p (2 * a + b))
        ≡ (pos 1_000_000_000 -ℤ less_by p a b (from_beginning c.args.segments (excess_at c.args.totals.now c.loop-e.e)))
    here p a b l m n = c.coder_sums.ensures p a b l m n ∙ ap (λ more. pos 1_000_000_000 -ℤ less_by p a b more) same
