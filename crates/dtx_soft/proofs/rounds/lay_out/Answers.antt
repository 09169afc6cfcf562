use Rattle.std.proofs.Common.{◌≡◌, ℕ, ◌+◌, ◌-◌, ◌*◌, ◌/◌, ◌%◌, ◌<◌, ◌≤◌, ◌⊎◌, inl, inr, [], get_or, length}
use Rattle.std.proofs.Common.{pos, sym, ap, ◌∙◌, subst, arith}
use Rattle.std.proofs.lemmas.Bool.{cases_lt}
use Rattle.std.proofs.lemmas.List.FromFn.{fill_by_all}
use Rattle.dtx_slice.specs.Unrolled.{symbol_place}
use Rattle.dtx_soft.specs.Coders.{coder_symbols, data_symbol}
use Rattle.dtx_soft.specs.Gaps.{column}
use Rattle.dtx_soft.proofs.ColumnsLemmas.{length-column, symbol_in_column}
use Rattle.dtx_soft.proofs.Places.{place_round, place_segment, symbol_of_row}
use Rattle.dtx_soft.proofs.rounds.lay_out.Goals as goal

pub loop-i-preserved : goal.loop-i-preserved
loop-i-preserved c t e l m = by_segment (cases_lt t (69 * c.loop-i.i))
  where
    here : (r : ℕ) → r < 69 → get_or (get_or c.read_segment.new.rounds (69 * c.loop-i.i + r) []) e (pos 0)
        ≡ data_symbol c.args.segments.now (symbol_place 0 (69 * c.loop-i.i + r) e)
    here r k = c.read_segment.ensures.lanes r e k m
        ∙ ap (λ k. get_or (get_or c.args.segments.now c.loop-i.i []) k (pos 0)) place
        ∙ sym (symbol_of_row c.args.segments.now c.loop-i.i (symbol_place 0 (69 * c.loop-i.i + r) e)
        (place_segment (69 * c.loop-i.i + r) e ∙ within))
      where
        within : (69 * c.loop-i.i + r) / 69 ≡ c.loop-i.i
        within = omega arith

        place : 4 + 12 * r + (e + 12 - 4 * (c.loop-i.i % 3)) % 12 ≡ 4 + symbol_place 0 (69 * c.loop-i.i + r) e % 828
        place =
            let a = place_round (69 * c.loop-i.i + r) e in
            let b : (69 * c.loop-i.i + r) % 69 ≡ r = omega arith in
            let d : (0 + (69 * c.loop-i.i + r) / 69) % 3 ≡ (0 + c.loop-i.i) % 3 = ap (λ i. (0 + i) % 3) within in
            omega (arith, a, b, d)

    by_segment : (t < 69 * c.loop-i.i) ⊎ (69 * c.loop-i.i ≤ t)
        → get_or (get_or c.read_segment.new.rounds t []) e (pos 0)
        ≡ data_symbol c.args.segments.now (symbol_place 0 t e)
    by_segment (inl k) =
        ap (λ round. get_or round e (pos 0)) (c.read_segment.ensures.before t k) ∙ c.loop-i.invariant t e k m
    by_segment (inr k) = subst (λ t. get_or (get_or c.read_segment.new.rounds t []) e (pos 0)
        ≡ data_symbol c.args.segments.now (symbol_place 0 t e)) (back t k) (here (t - 69 * c.loop-i.i) (omega arith))
      where
        back : (t : ℕ) → 69 * c.loop-i.i ≤ t → 69 * c.loop-i.i + (t - 69 * c.loop-i.i) ≡ t
        back t k = omega arith

pub returns : goal.returns
unfolding coder_symbols
returns c e m = fill_by_all (λ t. data_symbol c.args.segments.now (symbol_place 0 t e)) (column c.loop-i.rounds e)
    (69 * length c.args.segments.now) (pos 0) (omega (arith, length-column c.loop-i.rounds e))
    (λ t l. symbol_in_column c.loop-i.rounds e t (omega arith) ∙ c.loop-i.invariant t e (omega arith) m)
