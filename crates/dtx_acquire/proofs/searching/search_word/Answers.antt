use Rattle.std.proofs.Common.{◌≡◌, ◌+◌, false, sym, ◌∙◌, arith, below_more}
use Rattle.dtx_lists.proofs.RangeSearch.{find-range_first}
use Rattle.dtx_acquire.proofs.PlacesLemmas.{from_first, none_found}
use Rattle.dtx_acquire.proofs.searching.search_word.Goals as goal

pub passes-requires-clause-count : goal.passes-requires-clause-count
passes-requires-clause-count g c =
    c.unlike_in.ensures c.args.symbols.now c.args.first (omega (arith, c.requires.room)) c.window_at-words.ensures

pub loop-k-preserved : goal.loop-k-preserved
loop-k-preserved g c =
    below_more (λ i. g.T.SyncTest.passes c.args.symbols.now (c.args.first + i) ≡ false) c.loop-k.k c.loop-k.invariant
    (sym c.passes.ensures ∙ c.if-passes.false)

pub returns-then-passes : goal.returns-then-passes
returns-then-passes g c =
    let passes = g.T.SyncTest.passes c.args.symbols.now in
    sym (find-range_first passes c.args.first c.args.count (c.args.first + c.loop-k.k) (omega arith) (omega arith)
    (sym c.passes.ensures ∙ c.if-passes.true) (from_first passes c.args.first c.loop-k.k c.loop-k.invariant))

pub returns : goal.returns
returns g c =
    let passes = g.T.SyncTest.passes c.args.symbols.now in
    sym (none_found passes c.args.first c.args.count
    (from_first passes c.args.first c.args.count (λ i l. c.loop-k.invariant i (omega arith))))
