-- What is kept of the pages, with one order more, and what it says of the orders so far.
use Rattle.std.proofs.Common.{◌≡◌, ◌≢◌, ℕ, ◌<◌, ◌≤◌, ◌⊎◌, ◌==◌, ◌||◌, Bool, true, false, cond, Option, None, option_map}
use Rattle.std.proofs.Common.{List, [], ◌∷◌, length, map, get_or, set, take, replicate, refl, sym, ap, ap₂, subst, ◌∙◌}
use Rattle.std.proofs.Common.{arith, inl, inr, zero-add}
use Rattle.std.specs.Prelude.{option_and_then}
use Rattle.std.specs.List.{range_with_len, take_while, list_all}
use Rattle.std.proofs.lemmas.Bool.{cases_eq, cond-true, cond-false, eq-eqb, ne_eqb}
use Rattle.std.proofs.lemmas.List.{length-set, get_or-set_same, get_or-set_other}
use Rattle.std.proofs.lemmas.List.Folds.{list_all-map}
use Rattle.std.proofs.lemmas.List.FromFn.{fill_by_all, get_or-map-range_with_len, length-map-range_with_len}
use Rattle.std.proofs.lemmas.List.FromFn.{take-map-range_with_len}
use Rattle.std.proofs.lemmas.List.Sums.{take_while-cons}
use Rattle.dtx_ops.specs.Paging.{page_of, pages_of}
use Rattle.dtx_ops.specs.declared.fields.Ops.{Ops}
use Rattle.dtx_exciter.specs.declared.pages.PageEntry.{PageEntry}
use Rattle.dtx_exciter.specs.declared.pages.Pages.{Pages}
use Rattle.dtx_exciter.specs.Order.{Order}
use Rattle.dtx_exciter.specs.Pages.{page, pages, entry_of, of_one_cycle, all_pages_told, is_told, listing}
use Rattle.dtx_exciter.specs.Pages.{entry_in_force, held_of, HoldsCycle, begun, held_after, with_order, HoldsPages}
use Rattle.dtx_exciter.specs.Told.{hold_by, served}
use Rattle.dtx_exciter.proofs.PagesLemmas.{listing_here, listing_other}
use Rattle.dtx_exciter.specs.Step.{served_by}

-- ---- what is kept says what is in force

pub held_entry : (a : ℕ) (r : List Order) (p : Pages) → HoldsPages a r p
    → option_map (λ h. h.entry) p.held ≡ entry_in_force a r
unfolding entry_in_force
held_entry a r p k = grind arith

held_all : (a : ℕ) (o : Order) (r : List Order) (p : Pages) → HoldsPages a (o ∷ r) p
    → list_all (λ t. t) (take p.count p.told) ≡ all_pages_told (of_one_cycle (o ∷ r))
held_all a o r p k = ap₂ (λ n ts. list_all (λ t. t) (take n ts)) k.count k.cycle.told
    ∙ ap (list_all (λ t. t)) (take-map-range_with_len (is_told (of_one_cycle (o ∷ r))) 0 30 (pages o) k.few)
    ∙ list_all-map (λ t. t) (is_told (of_one_cycle (o ∷ r))) (range_with_len 0 (pages o))

pub held_served : (a d : ℕ) (o : Order) (r : List Order) (p : Pages) → HoldsPages a (o ∷ r) p
    → served_by d o.ops.max_delay p ≡ served a d (o ∷ r)
unfolding served
held_served a d o r p k = ap₂ (hold_by d o.ops.max_delay) (held_entry a (o ∷ r) p k) (held_all a o r p k)

-- ---- where the number of pages may be another one

cleared_holds : (a n : ℕ) → HoldsCycle a [] (record { count = n; told = replicate 30 false; held = None })
unfolding listing
cleared_holds a n = record { told = refl; held = refl }

pub nothing_holds : (a : ℕ) → HoldsPages a [] (record { count = 0; told = replicate 30 false; held = None })
nothing_holds a = record { count = refl; few = omega arith; cycle = cleared_holds a 0 }

begun_holds : (a n : ℕ) (r : List Order) (p : Pages) → HoldsPages a r p
    → HoldsCycle a (take_while (λ x. pages x == n) r) (begun n p)
begun_holds a n [] p k = by_count (p.count == n)
  where
    by_count : (t : Bool) → HoldsCycle a [] (cond t p (record { count = n; told = replicate 30 false; held = None }))
    by_count true = k.cycle
    by_count false = cleared_holds a n
begun_holds a n (l ∷ r) p k = elim (cases_eq (pages l) n) [
  | inl e ↦ subst (HoldsCycle a (take_while (λ x. pages x == n) (l ∷ r)))
      (sym (cond-true (p.count == n) p (record { count = n; told = replicate 30 false; held = None })
      (eq-eqb p.count n (k.count ∙ e)))) (subst (λ c. HoldsCycle a c p)
      (ap (λ (m : ℕ). l ∷ take_while (λ x. pages x == m) r) e ∙ sym (take_while-cons (λ x. pages x == n) l r
      ∙ cond-true (pages l == n) (l ∷ take_while (λ x. pages x == n) r) [] (eq-eqb (pages l) n e))) k.cycle)
  | inr h ↦ subst (HoldsCycle a (take_while (λ x. pages x == n) (l ∷ r)))
      (sym (cond-false (p.count == n) p (record { count = n; told = replicate 30 false; held = None })
      (ne_eqb p.count n (λ e. h (sym k.count ∙ e)))))
      (subst (λ c. HoldsCycle a c (record { count = n; told = replicate 30 false; held = None }))
      (sym (take_while-cons (λ x. pages x == n) l r
      ∙ cond-false (pages l == n) (l ∷ take_while (λ x. pages x == n) r) [] (ne_eqb (pages l) n h)))
      (cleared_holds a n))
]

-- ---- one order more

told_more : (o : Order) (c : List Order) (ts : List Bool) → page o < 30 → ts ≡ map (is_told c) (range_with_len 0 30)
    → set ts (page o) true ≡ map (is_told (o ∷ c)) (range_with_len 0 30)
told_more o c ts l e =
    let long : length ts ≡ 30 = ap (λ (x : List Bool). length x) e ∙ length-map-range_with_len (is_told c) 0 30 in
    fill_by_all (is_told (o ∷ c)) (set ts (page o) true) 30 false (length-set ts (page o) true ∙ long)
    (λ k m. by_page k m (cases_eq k (page o)))
  where
    by_page : (k : ℕ) → k < 30 → (k ≡ page o) ⊎ (k ≢ page o)
        → get_or (set ts (page o) true) k false ≡ ((page o == k) || is_told c k)
    by_page k m (inl s) = grind (arith, get_or-set_same, eq-eqb)
    by_page k m (inr s) = get_or-set_other ts (page o) k true false s ∙ ap (λ x. get_or x k false) e
        ∙ get_or-map-range_with_len (is_told c) 0 30 k k false m (zero-add k)
        ∙ sym (ap (λ b. b || is_told c k) (ne_eqb (page o) k (λ q. s (sym q))))

held_more : (a : ℕ) (o : Order) (c : List Order) (h : Option PageEntry) → h ≡ option_and_then (held_of a) (listing a c)
    → held_after (page o) (entry_of a o.ops) h ≡ option_and_then (held_of a) (listing a (o ∷ c))
held_more a o c h e = grind (arith, listing_other, listing_here)

pub order_holds : (a i : ℕ) (ops : Ops) (r : List Order) (p : Pages) → page_of ops.paging < pages_of ops.paging
    → pages_of ops.paging ≤ 30 → HoldsPages a r p
    → HoldsPages a (record { place = i; ops = ops } ∷ r) (with_order a ops p)
order_holds a i ops r p l m k =
    let o : Order = record { place = i; ops = ops } in
    let c : List Order = take_while (λ x. pages x == pages_of ops.paging) r in
    let q : HoldsCycle a c (begun (pages_of ops.paging) p) = begun_holds a (pages_of ops.paging) r p k in
    record {
      count = refl;
      few = m;
      cycle = record {
        told = told_more o c (begun (pages_of ops.paging) p).told (omega (arith, l, m)) q.told;
        held = held_more a o c (begun (pages_of ops.paging) p).held q.held;
      };
    }
