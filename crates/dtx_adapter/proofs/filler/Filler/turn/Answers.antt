use Rattle.std.proofs.Common.{ℕ, ◌+◌, ◌*◌, ◌%◌, ◌<◌, ◌≤◌, length, sym, ap, subst, ◌∙◌, arith, slice_range}
use Rattle.dtx_ops.specs.declared.paging.Paging.TheVariants.{Of}
use Rattle.dtx_ops.specs.Paging.{page_of, pages_of, IsPaged}
use Rattle.dtx_adapter.proofs.PagesLemmas.{paged}
use Rattle.dtx_adapter.proofs.filler.Filler.turn.Goals as goal

pub invariant_of-self : goal.invariant_of-self
invariant_of-self c =
    let was = c.self.invariant in
    let all = c.self.inside.entries.items in
    let pages : ℕ = c.in-Of.pages in
    let page : ℕ = (c.in-Of.page + 1) % pages in
    let before : c.in-Of.page < pages =
    subst (λ paging. page_of paging < pages_of paging) c.in-Of.is was.paged.page in
    let most : pages ≤ 30 = subst (λ paging. pages_of paging ≤ 30) c.in-Of.is was.paged.pages in
    let held = c.part-self-inside.ensures
    ∙ ap (λ entries. slice_range entries (34 * page) (34 * page + 34)) c.as_slice.ensures.value in
    record {
      start = was.start;
      max_delay = was.max_delay;
      counter = was.counter;
      differ = was.differ;
      paged = subst (λ part. IsPaged (Of page pages) (length part)) (sym held)
          (paged all page pages (omega (arith, before)) most);
      at_hand = held;
    }
