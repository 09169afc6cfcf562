use Rattle.std.proofs.Common.{◌≡◌, ◌+◌, ◌%◌, ◌≤◌, ◌⊎◌, inl, inr, ◌==◌, true, arith}
use Rattle.std.proofs.lemmas.Bool.{eqb-true, eq-eqb}
use Rattle.dtx_receiver.proofs.CompleteLemmas.{complete_all, complete_only}
use Rattle.dtx_rounds.proofs.words.is_whole.Goals as goal

pub returns-then-k-segments-2 : goal.returns-then-k-segments-2
returns-then-k-segments-2 c = (
  λ t. complete_all c.args.segments c.args.k (inr (c.if-k-segments-2.true, eqb-true (c.args.k % 52) 0 t)),
  λ h. by_kind (complete_only c.args.segments c.args.k h),
)
  where
    by_kind : (c.args.k + 53 ≤ c.args.segments) ⊎ ((c.args.k + 52 ≡ c.args.segments) × (c.args.k % 52 ≡ 0))
        → (c.args.k % 52 == 0) ≡ true
    by_kind (inl more) = absurd (omega (arith, more, c.if-k-segments.false))
    by_kind (inr both) = eq-eqb (c.args.k % 52) 0 both.1

pub returns-else-k-segments-2 : goal.returns-else-k-segments-2
returns-else-k-segments-2 c = (
  λ t. absurd (c.if-k-segments-2.false (eqb-true (c.args.k + 52) c.args.segments t)),
  λ h. by_kind (complete_only c.args.segments c.args.k h),
)
  where
    by_kind : (c.args.k + 53 ≤ c.args.segments) ⊎ ((c.args.k + 52 ≡ c.args.segments) × (c.args.k % 52 ≡ 0))
        → (c.args.k + 52 == c.args.segments) ≡ true
    by_kind (inl more) = absurd (omega (arith, more, c.if-k-segments.false))
    by_kind (inr both) = eq-eqb (c.args.k + 52) c.args.segments both.0
