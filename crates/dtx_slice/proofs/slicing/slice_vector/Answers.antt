use Rattle.std.proofs.Common.{◌≡◌, ℕ, ◌+◌, ◌-◌, ◌<◌, ◌≤◌, ◌⊎◌, inl, inr, pos, get_or, ◌∙◌, subst, arith}
use Rattle.std.proofs.lemmas.Bool.{cases_lt}
use Rattle.std.proofs.lemmas.Simd.{get_or-put_chunk_below, get_or-put_chunk_at}
use lib.Lanes.{put_chunk}
use Rattle.dtx_slice.specs.Slicing.{sliced}
use Rattle.dtx_slice.proofs.slicing.slice_vector.Goals as goal

pub returns-clause-levels : goal.returns-clause-levels
returns-clause-levels c = λ f k l. by_cases f k l (cases_lt k c.args.from)
  where
    by_cases : ((k : ℕ) → k < c.args.from → get_or c.args.out.now k 0 ≡ sliced (get_or c.args.segment.now (4 + k)
        (pos 0))) → (k : ℕ) → k < c.args.from + 16 → (k < c.args.from) ⊎ (c.args.from ≤ k)
        → get_or (put_chunk c.args.from c.args.out.now c.sliced_from-lanes.result) k 0
        ≡ sliced (get_or c.args.segment.now (4 + k) (pos 0))
    by_cases f k l (inl m) =
        get_or-put_chunk_below c.args.from c.args.out.now c.sliced_from-lanes.result k 0 m ∙ f k m
    by_cases f k l (inr m) =
        subst (λ k. get_or (put_chunk c.args.from c.args.out.now c.sliced_from-lanes.result) k 0
        ≡ sliced (get_or c.args.segment.now (4 + k) (pos 0))) (omega arith)
        (get_or-put_chunk_at c.args.from c.args.out.now c.sliced_from-lanes.result (k - c.args.from) 0
        (omega (arith, c.sliced_from-lanes.ensures.long))
        (omega (arith, c.sliced_from-lanes.ensures.long, c.requires.room, c.requires.from))
        ∙ c.sliced_from-lanes.ensures.levels (k - c.args.from) (omega arith))
