-- Which groups of a made stream hold a placeholder: those with which the packet 100 of a field begins.
use Rattle.std.proofs.Common.{◌≡◌, ◌≢◌, ◌⊎◌, inl, inr, ℕ, zero, suc, ◌+◌, ◌-◌, ◌*◌, ◌/◌, ◌%◌, ◌<◌, ◌≤◌, ◌==◌, Bool}
use Rattle.std.proofs.Common.{true, false, List, [], ◌∷◌, ◌++◌, map, get_or, refl, sym, ap, ◌∙◌, arith}
use Rattle.std.specs.Prelude.{◌||◌, filter}
use Rattle.std.specs.List.{range_with_len}
use Rattle.std.proofs.lemmas.Bool.{cases_eq, eq-eqb, ne_eqb}
use Rattle.std.proofs.lemmas.List.{append-nil}
use Rattle.std.proofs.lemmas.List.Elements.{filter-append}
use Rattle.std.proofs.lemmas.List.FromFn.{get_or-map-range_with_len, map-range_with_len_more}
use Rattle.dtx_lists.proofs.Range.{range_with_len-parts}
use Rattle.dtx_lists.proofs.RangeFilter.{filter-kept, filter-lost}
use Rattle.dtx_make.specs.Made.{made_packet}
use Rattle.dtx_network.specs.Headline.{IsFirstListing}
use Rattle.dtx_network.specs.Orders.{has_listing, has_order, is_operations, orders}
use Rattle.dtx_top.specs.WorkedNetwork.{made_packets}

-- ---- packets and groups

pub made_at : (seed count k : ℕ) → k < count → get_or (made_packets seed count) k [] ≡ made_packet seed k
unfolding made_packets
made_at seed count k l = get_or-map-range_with_len (made_packet seed) 0 count k k [] l (omega arith)

operations_at : (seed count k : ℕ) → k < count → is_operations (made_packets seed count) k ≡ (k % 312 == 100)
unfolding is_operations made_packet
operations_at seed count k l = grind (arith, made_at)

first_of : (a b c d : Bool) → b ≡ false → c ≡ false → d ≡ false → (a || (b || (c || (d || false)))) ≡ a
first_of true b c d eb ec ed = refl
first_of false true c d eb ec ed = eb
first_of false false true d eb ec ed = ec
first_of false false false true eb ec ed = ed
first_of false false false false eb ec ed = refl

pub order_at : (seed count g : ℕ) → g % 4 ≡ 0 → g + 4 ≤ count → has_order (made_packets seed count) g ≡ (g % 312 == 100)
unfolding has_order
order_at seed count g z l = grind (arith, first_of, operations_at, ne_eqb)

-- ---- the numbers 100, 412, 724 and so on

abbrev pub each_312 : ℕ → ℕ
each_312 i = 100 + 312 * i

pub every_312 : (p : ℕ → Bool) (n : ℕ) → ((g : ℕ) → 100 ≤ g → g < 100 + n → p g ≡ (g % 312 == 100))
    → filter p (range_with_len 100 n) ≡ map each_312 (range_with_len 0 ((n + 311) / 312))
every_312 p zero h = refl
every_312 p (suc n) h =
    let e : suc n ≡ n + 1 = omega arith in
    ap (λ m. filter p (range_with_len 100 m)) e ∙ ap (filter p) (range_with_len-parts 100 n 1)
    ∙ filter-append p (range_with_len 100 n) ((100 + n) ∷ [])
    ∙ ap (λ xs. xs ++ filter p ((100 + n) ∷ [])) (every_312 p n (λ g l m. h g l (omega (arith, m))))
    ∙ by_last (cases_eq (n % 312) 0)
  where
    front : List ℕ
    front = map each_312 (range_with_len 0 ((n + 311) / 312))

    by_last : (n % 312 ≡ 0) ⊎ (n % 312 ≢ 0)
        → front ++ filter p ((100 + n) ∷ []) ≡ map each_312 (range_with_len 0 ((suc n + 311) / 312))
    by_last (inl z) =
        let more : (n + 311) / 312 + 1 ≡ (suc n + 311) / 312 = omega (arith, z) in
        let last : 100 + n ≡ each_312 ((n + 311) / 312) = omega (arith, z) in
        ap (λ xs. front ++ xs) (filter-kept p (100 + n) [] (grind (arith, eq-eqb)) ∙ ap (λ k. k ∷ []) last)
        ∙ sym (map-range_with_len_more each_312 0 ((n + 311) / 312) ((n + 311) / 312) (omega arith))
        ∙ ap (λ m. map each_312 (range_with_len 0 m)) more
    by_last (inr z) = grind (arith, filter-lost, ne_eqb, append-nil)

-- ---- orders of its feed

-- a feed that orders what the made stream does
abbrev pub IsOrdered : List (List ℕ) → ℕ → ℕ → Type 0
IsOrdered fed seed count = (g : ℕ) → has_order fed g ≡ has_order (made_packets seed count) g

pub orders_are : (fed : List (List ℕ)) (seed count : ℕ) → 104 ≤ count → IsOrdered fed seed count
    → orders fed 100 count ≡ map each_312 (range_with_len 0 ((count + 208) / 312))
unfolding orders
orders_are fed seed count least same = grind (arith, every_312, cases_eq, eq-eqb, order_at, ne_eqb)

-- where each order lists an address, its first listing is that of the group from packet 100 on
pub first_listing : (address : ℕ) (fed : List (List ℕ)) (seed count : ℕ) → 104 ≤ count → IsOrdered fed seed count
    → ((g : ℕ) → has_listing address fed g ≡ has_order fed g) → IsFirstListing address fed 0 count 100
first_listing address fed seed count least same lists = grind (arith, order_at, ne_eqb)
