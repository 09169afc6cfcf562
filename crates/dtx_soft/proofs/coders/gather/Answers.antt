use Rattle.std.proofs.Common.{◌≡◌, ℕ, ◌+◌, ◌-◌, ◌*◌, ◌<◌, ◌≤◌, ◌⊎◌, inl, inr, get_or, length, pos, ◌∙◌, subst, arith}
use Rattle.std.proofs.lemmas.Bool.{cases_lt}
use Rattle.std.proofs.lemmas.List.FromFn.{fill_by_all}
use Rattle.dtx_slice.specs.Unrolled.{symbol_place}
use Rattle.dtx_soft.specs.Coders.{coder_symbols, data_symbol}
use Rattle.dtx_soft.proofs.Places.{place_segment, symbol_of_row}
use Rattle.dtx_soft.proofs.coders.gather.Goals as goal

pub loop-i-preserved : goal.loop-i-preserved
loop-i-preserved c k l = by_segment (cases_lt k (69 * c.loop-i.i))
  where
    here : (r : ℕ) → r < 69 → get_or c.gather_segment.new.symbols (69 * c.loop-i.i + r) (pos 0)
        ≡ data_symbol c.args.segments.now (symbol_place 0 (69 * c.loop-i.i + r) c.args.coder)
    here r m = grind (arith, symbol_of_row, place_segment)

    by_segment : (k < 69 * c.loop-i.i) ⊎ (69 * c.loop-i.i ≤ k) → get_or c.gather_segment.new.symbols k (pos 0)
        ≡ data_symbol c.args.segments.now (symbol_place 0 k c.args.coder)
    by_segment (inl m) = c.gather_segment.ensures.before k m ∙ c.loop-i.invariant k m
    by_segment (inr m) = subst (λ k. get_or c.gather_segment.new.symbols k (pos 0)
        ≡ data_symbol c.args.segments.now (symbol_place 0 k c.args.coder)) (back k m)
        (here (k - 69 * c.loop-i.i) (omega arith))
      where
        back : (k : ℕ) → 69 * c.loop-i.i ≤ k → 69 * c.loop-i.i + (k - 69 * c.loop-i.i) ≡ k
        back k m = omega arith

pub returns : goal.returns
unfolding coder_symbols
returns c = fill_by_all (λ t. data_symbol c.args.segments.now (symbol_place 0 t c.args.coder)) c.loop-i.symbols
    (69 * length c.args.segments.now) (pos 0) (omega arith) (λ k l. c.loop-i.invariant k (omega arith))
