-- Which pages the orders tell.
use Rattle.std.proofs.Common.{◌≡◌, ◌≢◌, ℕ, zero, suc, ◌+◌, ◌<◌, ◌≤◌, ◌⊎◌, ◌↔◌, ◌==◌, ◌||◌, Bool, true, false, Option}
use Rattle.std.proofs.Common.{Some, None, List, [], ◌∷◌, refl, sym, ap, ◌∙◌, arith, inl, inr}
use Rattle.std.specs.List.{take_while, cons_option}
use Rattle.std.specs.Option.{unwrap_or}
use Rattle.std.proofs.lemmas.Bool.{cases_eq, cond-true, cond-false, eq-eqb, ne_eqb, eqb-true, false≢true}
use Rattle.std.proofs.lemmas.List.Sums.{take_while-cons}
use Rattle.dtx_lists.proofs.Range.{list_all-range_at, list_all-range_from}
use Rattle.dtx_ops.specs.Paging.{page_of, pages_of}
use Rattle.dtx_ops.specs.declared.fields.Ops.{Ops}
use Rattle.dtx_exciter.specs.Order.{Order, latest_first, counting_order, placed, orders}
use Rattle.dtx_exciter.specs.Pages.{pages, of_one_cycle, is_told, all_pages_told, WasTold}

-- the orders of groups below n, as far back as all have this number of pages
abbrev since : List (Option Ops) → ℕ → ℕ → List Order
since said most n = take_while (λ o. pages o == most) (latest_first (λ g. placed g (counting_order said g)) n)

none_some : {A : Type 0} (x : A) → ◌≡◌ {A = Option A} None (Some x) → ⊥
none_some x e = cc

-- of groups below n
record Below (said : List (Option Ops)) (n most k : ℕ) : Type 0 where
  group : ℕ
  ops : Ops
  below : group < n
  orders : counting_order said group ≡ Some ops
  tells : page_of ops.paging ≡ k
  later : (g : ℕ) (other : Ops) → group ≤ g → g < n → counting_order said g ≡ Some other
      → pages_of other.paging ≡ most

same_ops : (said : List (Option Ops)) (n g : ℕ) (ops other : Ops) → n ≡ g → counting_order said n ≡ Some ops
    → counting_order said g ≡ Some other → ops ≡ other
same_ops said n g ops other e h c = ap (λ o. unwrap_or o other) (sym h ∙ ap (counting_order said) e ∙ c)

-- one group further
further : (said : List (Option Ops)) (n most k : ℕ) → Below said n most k
    → ((other : Ops) → counting_order said n ≡ Some other → pages_of other.paging ≡ most) → Below said (suc n) most k
further said n most k b h = record {
  group = b.group;
  ops = b.ops;
  below = let l = b.below in omega (arith, l);
  orders = b.orders;
  tells = b.tells;
  later = λ g other l m c. elim (cases_eq g n) [
    | inl e ↦ h other (ap (counting_order said) (sym e) ∙ c)
    | inr e ↦ b.later g other l (omega (arith, m, e)) c
  ];
}

told_below : (said : List (Option Ops)) (most k n : ℕ) → is_told (since said most n) k ≡ true → Below said n most k
told_below said most k zero h = absurd (false≢true h)
told_below said most k (suc n) h = by_order (counting_order said n) refl (λ x. told_below said most k n x) h
  where
    by_one : (ops : Ops) (t : Bool) → (is_told (since said most n) k ≡ true → Below said n most k)
        → counting_order said n ≡ Some ops → pages_of ops.paging ≡ most
        → (page_of ops.paging == k) ≡ t → (t || is_told (since said most n) k) ≡ true → Below said (suc n) most k
    by_one ops true rest e q s h = record {
      group = n;
      ops = ops;
      below = omega arith;
      orders = e;
      tells = eqb-true (page_of ops.paging) k s;
      later = λ g other l m c. ap (λ (o : Ops). pages_of o.paging)
          (sym (same_ops said n g ops other (omega (arith, l, m)) e c)) ∙ q;
    }
    by_one ops false rest e q s h = further said n most k (rest h)
        (λ other c. ap (λ (o : Ops). pages_of o.paging) (sym (same_ops said n n ops other refl e c)) ∙ q)

    by_pages : (ops : Ops) → (is_told (since said most n) k ≡ true → Below said n most k)
        → counting_order said n ≡ Some ops → is_told (take_while (λ o. pages o == most) (record { place = n; ops = ops }
        ∷ latest_first (λ g. placed g (counting_order said g)) n)) k ≡ true
        → (pages_of ops.paging ≡ most) ⊎ (pages_of ops.paging ≢ most) → Below said (suc n) most k
    by_pages ops rest e h (inl q) = by_one ops (page_of ops.paging == k) rest e q refl (sym (ap (λ c. is_told c k)
        (take_while-cons (λ o. pages o == most) (record { place = n; ops = ops })
        (latest_first (λ g. placed g (counting_order said g)) n)
        ∙ cond-true (pages_of ops.paging == most) (record { place = n; ops = ops } ∷ since said most n) []
        (eq-eqb (pages_of ops.paging) most q))) ∙ h)
    by_pages ops rest e h (inr q) = absurd (false≢true (sym (ap (λ c. is_told c k)
        (take_while-cons (λ o. pages o == most) (record { place = n; ops = ops })
        (latest_first (λ g. placed g (counting_order said g)) n)
        ∙ cond-false (pages_of ops.paging == most) (record { place = n; ops = ops } ∷ since said most n) []
        (ne_eqb (pages_of ops.paging) most q))) ∙ h))

    by_order : (o : Option Ops) → counting_order said n ≡ o
        → (is_told (since said most n) k ≡ true → Below said n most k) → is_told (take_while (λ o. pages o == most)
        (cons_option (placed n o) (latest_first (λ g. placed g (counting_order said g)) n))) k ≡ true
        → Below said (suc n) most k
    by_order None e rest h = further said n most k (rest h) (λ other c. absurd (none_some other (sym e ∙ c)))
    by_order (Some ops) e rest h = by_pages ops rest e h (cases_eq (pages_of ops.paging) most)

below_told : (said : List (Option Ops)) (most k n : ℕ) → Below said n most k → is_told (since said most n) k ≡ true
below_told said most k zero b = let l = b.below in absurd (omega (arith, l))
below_told said most k (suc n) b = by_order (counting_order said n) refl (cases_eq b.group n)
    (λ x. below_told said most k n x)
  where
    before : (Below said n most k → is_told (since said most n) k ≡ true) → b.group ≢ n
        → is_told (since said most n) k ≡ true
    before rest e = grind arith

    by_one : (ops : Ops) → counting_order said n ≡ Some ops → (b.group ≡ n) ⊎ (b.group ≢ n)
        → (Below said n most k → is_told (since said most n) k ≡ true)
        → ((page_of ops.paging == k) || is_told (since said most n) k) ≡ true
    by_one ops e (inl s) rest = grind (arith, eq-eqb, same_ops)
    by_one ops e (inr s) rest = grind arith

    by_order : (o : Option Ops) → counting_order said n ≡ o → (b.group ≡ n) ⊎ (b.group ≢ n)
        → (Below said n most k → is_told (since said most n) k ≡ true) → is_told (take_while (λ o. pages o == most)
        (cons_option (placed n o) (latest_first (λ g. placed g (counting_order said g)) n))) k ≡ true
    by_order None e (inl s) rest = absurd (none_some b.ops (sym e ∙ ap (counting_order said) (sym s) ∙ b.orders))
    by_order None e (inr s) rest = before rest s
    by_order (Some ops) e s rest = grind (arith, take_while-cons, cond-true, eq-eqb)

-- ---- of the order in force

was_told : (said : List (Option Ops)) (i n k : ℕ) → Below said (i + 1) n k → WasTold said i n k
was_told said i n k b = record {
  group = b.group;
  ops = b.ops;
  until = let l = b.below in omega (arith, l);
  orders = b.orders;
  tells = b.tells;
  since = λ g other x y c. b.later g other x (omega (arith, y)) c;
}

is_below : (said : List (Option Ops)) (i n k : ℕ) → WasTold said i n k → Below said (i + 1) n k
is_below said i n k w = record {
  group = w.group;
  ops = w.ops;
  below = let l = w.until in omega (arith, l);
  orders = w.orders;
  tells = w.tells;
  later = λ g other x y c. w.since g other x (omega (arith, y)) c;
}

pub all_told : (said : List (Option Ops)) (i : ℕ) (order : Order) (older : List Order) → orders said i ≡ order ∷ older
    → (all_pages_told (of_one_cycle (order ∷ older)) ≡ true)
    ↔ ((k : ℕ) → k < pages order → WasTold said i (pages order) k)
unfolding orders
all_told said i order older e = (forth, back)
  where
    cycle : of_one_cycle (order ∷ older) ≡ since said (pages order) (i + 1)
    cycle = sym (grind (arith, take_while-cons, cond-true, eq-eqb))

    forth : all_pages_told (of_one_cycle (order ∷ older)) ≡ true
        → (k : ℕ) → k < pages order → WasTold said i (pages order) k
    forth h k l = was_told said i (pages order) k (told_below said (pages order) k (i + 1)
        (sym (ap (λ c. is_told c k) cycle)
        ∙ list_all-range_at (is_told (of_one_cycle (order ∷ older))) 0 (pages order) h k (omega arith) (omega arith)))

    back : ((k : ℕ) → k < pages order → WasTold said i (pages order) k)
        → all_pages_told (of_one_cycle (order ∷ older)) ≡ true
    back h = list_all-range_from (is_told (of_one_cycle (order ∷ older))) 0 (pages order)
        (λ k x y. ap (λ c. is_told c k) cycle ∙ below_told said (pages order) k (i + 1) (grind (arith, is_below)))
