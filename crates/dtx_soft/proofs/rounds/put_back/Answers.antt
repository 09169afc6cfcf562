use Rattle.std.proofs.Common.{◌≡◌, ℕ, ◌+◌, ◌-◌, ◌*◌, ◌/◌, ◌%◌, ◌<◌, ◌≤◌, ◌⊎◌, inl, inr, [], get_or, length, slice_set}
use Rattle.std.proofs.Common.{pos, sym, ap, ◌∙◌, subst, arith}
use Rattle.std.proofs.lemmas.Bool.{cases_lt}
use Rattle.std.proofs.lemmas.List.FromFn.{fill_by_all}
use Rattle.dtx_slice.specs.Unrolled.{symbol_place}
use Rattle.dtx_soft.specs.Coders.{coder_symbols, data_symbol}
use Rattle.dtx_soft.specs.Gaps.{column}
use Rattle.dtx_soft.proofs.ColumnsLemmas.{length-column, symbol_in_column}
use Rattle.dtx_soft.proofs.Places.{place_round, place_segment, symbol_elsewhere, symbol_in_row, syncs_written}
use Rattle.dtx_soft.proofs.rounds.put_back.Goals as goal

turned_back : (x e : ℕ) → x < 3 → e < 12 → ((e + 12 - 4 * x) % 12 + 4 * x) % 12 ≡ e
turned_back x e l m = omega arith

pub loop-i-preserved : goal.loop-i-preserved
loop-i-preserved c = record {
  coders = λ t e l m. by_segment t e l m (cases_lt t (69 * c.loop-i.i));
  syncs = syncs_written c.args.segments.now c.loop-i.segments c.loop-i.i c.write_segment.new.segment within
      c.write_segment.ensures.sync c.loop-i.invariant.syncs;
}
  where
    within : c.loop-i.i < length c.loop-i.segments
    within = omega arith

    here : (r e : ℕ) → r < 69 → e < 12
        → data_symbol (slice_set c.loop-i.segments c.loop-i.i c.write_segment.new.segment)
        (symbol_place 0 (69 * c.loop-i.i + r) e) ≡ get_or (get_or c.args.rounds.now (69 * c.loop-i.i + r) []) e (pos 0)
    here r e k m = symbol_in_row c.loop-i.segments c.loop-i.i c.write_segment.new.segment
        (symbol_place 0 (69 * c.loop-i.i + r) e) within (place_segment (69 * c.loop-i.i + r) e ∙ segment)
        ∙ ap (λ k. get_or c.write_segment.new.segment k (pos 0)) place
        ∙ c.write_segment.ensures.symbols r ((e + 12 - 4 * (c.loop-i.i % 3)) % 12) k (omega arith)
        ∙ ap (λ e. get_or (get_or c.args.rounds.now (69 * c.loop-i.i + r) []) e (pos 0))
        (turned_back (c.loop-i.i % 3) e (omega arith) m)
      where
        segment : (69 * c.loop-i.i + r) / 69 ≡ c.loop-i.i
        segment = omega arith

        place : 4 + symbol_place 0 (69 * c.loop-i.i + r) e % 828 ≡ 4 + 12 * r + (e + 12 - 4 * (c.loop-i.i % 3)) % 12
        place =
            let a = place_round (69 * c.loop-i.i + r) e in
            let b : (69 * c.loop-i.i + r) % 69 ≡ r = omega arith in
            let d : (0 + (69 * c.loop-i.i + r) / 69) % 3 ≡ (0 + c.loop-i.i) % 3 = ap (λ i. (0 + i) % 3) segment in
            omega (arith, a, b, d)

    by_segment : (t e : ℕ) → t < 69 * (c.loop-i.i + 1) → e < 12 → (t < 69 * c.loop-i.i) ⊎ (69 * c.loop-i.i ≤ t)
        → data_symbol (slice_set c.loop-i.segments c.loop-i.i c.write_segment.new.segment) (symbol_place 0 t e)
        ≡ get_or (get_or c.args.rounds.now t []) e (pos 0)
    by_segment t e l m (inl k) =
        symbol_elsewhere c.loop-i.segments c.loop-i.i c.write_segment.new.segment (symbol_place 0 t e)
        (λ h. (let f = place_segment t e in absurd (omega (arith, h, f))))
        ∙ c.loop-i.invariant.coders t e k m
    by_segment t e l m (inr k) =
        subst (λ t. data_symbol (slice_set c.loop-i.segments c.loop-i.i c.write_segment.new.segment) (symbol_place 0 t
        e) ≡ get_or (get_or c.args.rounds.now t []) e (pos 0)) (back t k) (here (t - 69 * c.loop-i.i) e (omega arith) m)
      where
        back : (t : ℕ) → 69 * c.loop-i.i ≤ t → 69 * c.loop-i.i + (t - 69 * c.loop-i.i) ≡ t
        back t k = omega arith

pub returns-clause-coders : goal.returns-clause-coders
unfolding coder_symbols
returns-clause-coders c e m =
    sym (fill_by_all (λ t. data_symbol c.loop-i.segments (symbol_place 0 t e)) (column c.args.rounds.now e)
    (69 * length c.loop-i.segments) (pos 0) (omega (arith, length-column c.args.rounds.now e))
    (λ t l. symbol_in_column c.args.rounds.now e t (omega arith) ∙ sym (c.loop-i.invariant.coders t e (omega arith) m)))
