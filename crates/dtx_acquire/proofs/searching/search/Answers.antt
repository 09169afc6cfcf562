use Rattle.std.proofs.Common.{◌≡◌, ◌+◌, ◌*◌, ◌<◌, ◌≤◌, ◌⊎◌, inl, inr, ℕ, false, length, sym, ◌∙◌, arith}
use Rattle.std.proofs.lemmas.Bool.{cases_lt}
use Rattle.dtx_lists.proofs.RangeSearch.{find-range_misses}
use Rattle.dtx_acquire.proofs.PlacesLemmas.{least_found, least_none}
use Rattle.dtx_acquire.proofs.searching.search.Goals as goal

pub returns-then-symbols-from-lt-SEGMENT : goal.returns-then-symbols-from-lt-SEGMENT
returns-then-symbols-from-lt-SEGMENT g c =
    sym (least_none g.T.SyncTest.passes c.requires.whole c.args.symbols.now c.args.from
    (λ i l m. absurd (omega (arith, c.if-symbols-from-lt-SEGMENT.true, c.requires.within))))

pub loop-k-preserved : goal.loop-k-preserved
loop-k-preserved g c = λ i l m n. by_place i l m n (cases_lt i (c.args.from + 64 * c.loop-k.k))
  where
    by_place : (i : ℕ) → c.args.from ≤ i → i < c.args.from + 64 * (c.loop-k.k + 1) → i + 831 < length c.args.symbols.now
        → (i < c.args.from + 64 * c.loop-k.k) ⊎ (c.args.from + 64 * c.loop-k.k ≤ i)
        → g.T.SyncTest.passes c.args.symbols.now i ≡ false
    by_place i l m n (inl k) = c.loop-k.invariant i l k n
    by_place i l m n (inr k) =
        find-range_misses (g.T.SyncTest.passes c.args.symbols.now) (c.args.from + 64 * c.loop-k.k) c.min.result
        (sym c.search_word.ensures ∙ c.in-None.is) i k (omega (arith, c.min.ensures))

pub returns-in-Some : goal.returns-in-Some
returns-in-Some g c =
    sym (least_found g.T.SyncTest.passes c.requires.whole c.args.symbols.now c.args.from
    (c.args.from + 64 * c.loop-k.k) c.min.result c.in-Some.place (omega arith)
    (λ i l m. by_end i l m (cases_lt (i + 831) (length c.args.symbols.now)))
    (sym c.search_word.ensures ∙ c.in-Some.is))
  where
    by_end : (i : ℕ) → c.args.from ≤ i → i < c.args.from + 64 * c.loop-k.k
        → (i + 831 < length c.args.symbols.now) ⊎ (length c.args.symbols.now ≤ i + 831)
        → g.T.SyncTest.passes c.args.symbols.now i ≡ false
    by_end i l m (inl n) = c.loop-k.invariant i l m n
    by_end i l m (inr n) = c.requires.whole c.args.symbols.now i (omega arith)

pub returns : goal.returns
returns g c =
    sym (least_none g.T.SyncTest.passes c.requires.whole c.args.symbols.now c.args.from
    (λ i l m. c.loop-k.invariant i l (omega (arith, c.div_ceil-k-end.ensures)) m))
