-- An exciter that waits for its page: no order in force so far lists it.
use Rattle.std.proofs.Common.{◌≡◌, ◌≢◌, inl, inr, ℕ, zero, suc, ◌+◌, ◌<◌, ◌≤◌, ◌==◌, Bool, false, cond, All, Option}
use Rattle.std.proofs.Common.{Some, None, Err, List, [], ◌∷◌, refl, sym, ap, ap₂, ◌∙◌, arith, option_and_then, not}
use Rattle.std.proofs.Common.{find, true≢false, ne_eqb}
use Rattle.std.specs.List.{range_with_len, take_while, prefix_len, list_all, cons_option}
use Rattle.std.proofs.lemmas.Bool.{cases_Bool}
use Rattle.std.proofs.lemmas.List.Elements.{All-nil, All-cons, All-head, All-tail, All-take, All-weaker}
use Rattle.std.proofs.lemmas.List.Folds.{list_any_none}
use Rattle.std.proofs.lemmas.Option.{same_Some}
use Rattle.dtx_lists.proofs.Range.{list_all-range_at}
use Rattle.dtx_ops.specs.declared.fields.Entry.{Entry}
use Rattle.dtx_ops.specs.declared.fields.Ops.{Ops}
use Rattle.dtx_exciter.specs.declared.answers.Told.TheVariants.{Quiet}
use Rattle.dtx_exciter.specs.Order.{Order, latest_first, counting_order, placed, orders}
use Rattle.dtx_exciter.specs.Pages.{entry_of, lists, page, pages, of_one_cycle, is_told, all_pages_told}
use Rattle.dtx_exciter.specs.Pages.{unless_told_again, listing, entry_in_force}
use Rattle.dtx_exciter.specs.Told.{hold_by, served, told_at}
use Rattle.dtx_exciter.specs.Emission.{sent_by}

-- ---- nobody is served

-- an order doesn't list the address, and tells another page than this one, which there is
pub record IsOther (address own : ℕ) (order : Order) : Type 0 where
  pub unlisted : lists address order.ops ≡ false
  pub other : page order ≢ own
  pub below : own < pages order

All-cycle : (P : Order → Type 0) (r : List Order) → All P r → All P (of_one_cycle r)
All-cycle P [] h = h
All-cycle P (order ∷ older) h =
    All-cons P order (take_while (λ o. pages o == pages order) older) (All-head P order older h)
    (All-take P (prefix_len (λ o. pages o == pages order) older) older (All-tail P order older h))

find_none : {X : Type 0} (p : X → Bool) (xs : List X) → All (λ x. p x ≡ false) xs → find p xs ≡ None
find_none p [] h = refl
find_none p (x ∷ xs) h = ap₂ (λ (b : Bool) r. cond b (Some x) r) (All-head (λ y. p y ≡ false) x xs h)
    (find_none p xs (All-tail (λ y. p y ≡ false) x xs h))

none_listed : (address own : ℕ) (r : List Order) → All (IsOther address own) r → entry_in_force address r ≡ None
unfolding entry_in_force listing
none_listed address own r h = ap (λ o. option_and_then (λ (o : Order). entry_of address o.ops)
    (unless_told_again (take_while (λ o. not (lists address o.ops)) (of_one_cycle r)) o))
    (find_none (λ o. lists address o.ops) (of_one_cycle r)
    (All-weaker (IsOther address own) (λ o. lists address o.ops ≡ false) (λ o w. w.unlisted) (of_one_cycle r)
    (All-cycle (IsOther address own) r h)))

own_not_told : (address own : ℕ) (r : List Order) → All (IsOther address own) r → is_told (of_one_cycle r) own ≡ false
own_not_told address own r h = list_any_none (λ o. page o == own) (of_one_cycle r)
    (All-weaker (IsOther address own) (λ o. (page o == own) ≡ false) (λ o w. ne_eqb (page o) own w.other)
    (of_one_cycle r) (All-cycle (IsOther address own) r h))

not_all_told : (address own : ℕ) (order : Order) (older : List Order) → All (IsOther address own) (order ∷ older)
    → all_pages_told (of_one_cycle (order ∷ older)) ≡ false
not_all_told address own order older h =
    let cycle : List Order = of_one_cycle (order ∷ older) in
    let all : Bool = list_all (is_told cycle) (range_with_len 0 (pages order)) in
    elim (cases_Bool all) [
      | inr f ↦ f
      | inl t ↦
          let first : IsOther address own order = All-head (IsOther address own) order older h in
          let below = first.below in
          absurd (true≢false (sym (list_all-range_at (is_told cycle) 0 (pages order) t own (omega arith)
          (omega (arith, below))) ∙ own_not_told address own (order ∷ older) h))
    ]

pub none_served : (address delay own : ℕ) (r : List Order) → All (IsOther address own) r
    → served address delay r ≡ Err None
unfolding served
none_served address delay own [] h = refl
none_served address delay own (order ∷ older) h =
    ap₂ (λ (e : Option Entry) (t : Bool). hold_by delay order.ops.max_delay e t)
    (none_listed address own (order ∷ older) h) (not_all_told address own order older h)

-- ---- what is answered and sent then

pub told_waits : (address delay i : ℕ) (r : List Order) → served address delay r ≡ Err None
    → told_at address delay i r ≡ Quiet
told_waits address delay i [] e = refl
told_waits address delay i (order ∷ older) e = grind arith

pub sent_waits : (address delay : ℕ) (packets : List (List ℕ)) (i : ℕ) (r : List Order)
    → served address delay r ≡ Err None → sent_by address delay packets i r ≡ []
sent_waits address delay packets i [] e = refl
sent_waits address delay packets i (order ∷ older) e = grind arith

-- ---- the orders so far

All-cons_option : {A : Type 0} (P : A → Type 0) (o : Option A) (xs : List A) → ((x : A) → o ≡ Some x → P x) → All P xs
    → All P (cons_option o xs)
All-cons_option P None xs h rest = rest
All-cons_option P (Some x) xs h rest = All-cons P x xs (h x refl) rest

All-latest : {A : Type 0} (P : A → Type 0) (f : ℕ → Option A) (n : ℕ)
    → ((g : ℕ) (x : A) → g < n → f g ≡ Some x → P x) → All P (latest_first f n)
All-latest P f zero h = All-nil P
All-latest P f (suc n) h = All-cons_option P (f n) (latest_first f n) (λ x e. h n x (omega arith) e)
    (All-latest P f n (λ g x l e. h g x (omega arith) e))

pub All-orders : (P : Order → Type 0) (said : List (Option Ops)) (i : ℕ)
    → ((g : ℕ) (ops : Ops) → g ≤ i → counting_order said g ≡ Some ops → P (record { place = g; ops = ops }))
    → All P (orders said i)
unfolding orders
All-orders P said i h = All-latest P (λ g. placed g (counting_order said g)) (i + 1)
    (λ g order l e. grind (arith, same_Some))
