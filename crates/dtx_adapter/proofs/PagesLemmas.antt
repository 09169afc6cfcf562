-- The pages of transmitters.
use Rattle.std.proofs.Common.{◌≡◌, ◌≢◌, ◌⊎◌, inl, inr, ℕ, zero, suc, ◌+◌, ◌-◌, ◌*◌, ◌/◌, ◌%◌, ◌<◌, ◌≤◌, ◌==◌, nat_le}
use Rattle.std.proofs.Common.{nat_eq, Bool, true, false, cond, Some, None, List, [], ◌∷◌, length, map, take, drop}
use Rattle.std.proofs.Common.{get_or, refl, sym, ap, subst, ◌∙◌, arith, AllPairs, slice_get, slice_range, eq-eqb}
use Rattle.std.proofs.Common.{ne_eqb, eqb-true, le-leb, leb-true, get_or-take, get_or-drop, length-take, length-drop}
use Rattle.std.proofs.Common.{take_all}
use Rattle.std.specs.List.{find, IsDistinct}
use Rattle.std.proofs.Math.Nat.{mod-add-mod}
use Rattle.std.proofs.lemmas.Bool.{cases_Bool, cases_lt, cond-true, cond-false}
use Rattle.std.proofs.lemmas.Bool.Decides.{Decides-eqb}
use Rattle.std.proofs.lemmas.List.{get_or-map, length-map, take-map, drop-map}
use Rattle.std.proofs.lemmas.Map.Made.{AllPairs-from_IsDistinct}
use Rattle.std.proofs.lemmas.Option.{slice_get_within, get_or_from_slice_get}
use Rattle.dtx_ops.specs.declared.fields.Entry.{Entry}
use Rattle.dtx_ops.specs.declared.paging.Paging.{Paging}
use Rattle.dtx_ops.specs.declared.paging.Paging.TheVariants.{One, Of}
use Rattle.dtx_ops.specs.Paging.{most_of, IsPaged}
use Rattle.dtx_plan.specs.declared.transmitter.Transmitter.{Transmitter}
use Rattle.dtx_plan.specs.TransmitterTable.{addresses_of}
use Rattle.dtx_adapter.specs.Feed.{entry_of, pages_for, paging_of, listed, is_listed}
use Rattle.dtx_adapter.specs.Filling.{next_page}

-- ---- how many pages there are

-- as few as hold all
pub pages_hold : (count : ℕ) → count ≤ 34 * pages_for count
unfolding pages_for
pages_hold count = omega arith

pub pages_are_least : (count fewer : ℕ) → count ≤ 34 * fewer → pages_for count ≤ fewer
unfolding pages_for
pages_are_least count fewer h = omega (arith, h)

-- ---- which page comes

pub paging_of-few : {X : Type 0} (ts : List X) (n : ℕ) → length ts ≤ 35 → paging_of ts n ≡ One
unfolding paging_of
paging_of-few ts n few = grind (arith, cond-true, le-leb)

many_are : (n : ℕ) → 35 < n → nat_le n 35 ≡ false
many_are n h = grind (arith, cases_Bool, leb-true)

pub paging_of-many : {X : Type 0} (ts : List X) (n : ℕ) → 35 < length ts
    → paging_of ts n ≡ Of (n % pages_for (length ts)) (pages_for (length ts))
unfolding paging_of
paging_of-many ts n many = grind (arith, cond-false, many_are)

-- the page depends on how many transmitters there are
pub paging_of-same : {X Y : Type 0} (xs : List X) (ys : List Y) (n : ℕ) → length xs ≡ length ys
    → paging_of xs n ≡ paging_of ys n
unfolding paging_of
paging_of-same xs ys n same = ap (λ count. cond (nat_le count 35) One (Of (n % pages_for count) (pages_for count))) same

-- behind a group that holds a placeholder the next page comes
paging_of-next : {X : Type 0} (ts : List X) (n : ℕ) → paging_of ts (n + 1) ≡ next_page (paging_of ts n)
paging_of-next ts n = grind (arith, cases_lt, paging_of-many, mod-add-mod, paging_of-few)

pub paging_of-turn : {X : Type 0} (ts : List X) (n : ℕ) (turns : Bool)
    → paging_of ts (n + cond turns 1 0) ≡ cond turns (next_page (paging_of ts n)) (paging_of ts n)
paging_of-turn ts n true = paging_of-next ts n
paging_of-turn ts n false = grind arith

-- ---- a page has its place

pub within_pages : (i count : ℕ) → i < count → i / 34 < pages_for count
unfolding pages_for
within_pages i count h = omega (arith, h)

most_pages : (count : ℕ) → count ≤ 1020 → pages_for count ≤ 30
unfolding pages_for
most_pages count h = omega (arith, h)

length-part : {X : Type 0} (ts : List X) (m : ℕ) → length (slice_range ts m (m + 34)) ≤ 34
length-part ts m = omega (arith, length-take (m + 34 - m) (drop m ts))

pub paged : {X : Type 0} (ts : List X) (page pages : ℕ) → page < pages → pages ≤ 30
    → IsPaged (Of page pages) (length (listed ts (Of page pages)))
paged ts page pages below most = record { page = below; pages = most; fits = length-part ts (34 * page) }

paged_one : {X : Type 0} (ts : List X) → length ts ≤ 35 → IsPaged One (length (listed ts One))
paged_one ts few = record { page = omega arith; pages = omega arith; fits = few }

pub page_has_place : {X : Type 0} (ts : List X) (n : ℕ) → length ts ≤ 1020
    → IsPaged (paging_of ts n) (length (listed ts (paging_of ts n)))
page_has_place ts n most = elim (cases_lt 35 (length ts)) [
  | inl many ↦
      let some : 0 < pages_for (length ts) = omega (arith, within_pages 0 (length ts) (omega arith)) in
      let below : n % pages_for (length ts) < pages_for (length ts) = omega (arith, some) in
      subst (λ paging. IsPaged paging (length (listed ts paging))) (sym (paging_of-many ts n many))
      (paged ts (n % pages_for (length ts)) (pages_for (length ts)) below (most_pages (length ts) most))
  | inr few ↦ grind (arith, paging_of-few, paged_one)
]

-- the transmitters of a page, kept at hand
pub paged_at_hand : {X : Type 0} (all at_hand : List X) (paging : Paging) (n : ℕ) → paging ≡ paging_of all n
    → at_hand ≡ listed all paging → length all ≤ 1020 → IsPaged paging (length at_hand)
paged_at_hand all at_hand paging n turn held most = subst (λ part. IsPaged paging (length part)) (sym held)
    (subst (λ page. IsPaged page (length (listed all page))) (sym turn) (page_has_place all n most))

pub most_entries : (paging : Paging) → most_of paging ≤ 35
most_entries One = omega arith
most_entries (Of page pages) = omega arith

-- a page's transmitters are no more than an operations packet lists
pub few_on_page : {X : Type 0} (ts : List X) (paging : Paging) (n : ℕ) → paging ≡ paging_of ts n → length ts ≤ 1020
    → length (listed ts paging) ≤ 35
few_on_page ts paging n turn most =
    let place = paged_at_hand ts (listed ts paging) paging n turn refl most in
    let fits = place.fits in
    omega (arith, fits, most_entries paging)

-- ---- what stands on a page

pub listed-map : {X Y : Type 0} (f : X → Y) (xs : List X) (paging : Paging)
    → listed (map f xs) paging ≡ map f (listed xs paging)
listed-map f xs One = refl
listed-map f xs (Of page pages) = grind (arith, drop-map, take-map)

-- what holds of each two elements holds of each two of a part
AllPairs-part : {X : Type 0} (R : X → X → Type 0) (m n : ℕ) (xs : List X) → AllPairs R xs
    → AllPairs R (take n (drop m xs))
AllPairs-part R m n xs pairs = grind (arith, length-take, length-drop, get_or-take, get_or-drop)

pub AllPairs-listed : {X : Type 0} (R : X → X → Type 0) (xs : List X) (paging : Paging) → AllPairs R xs
    → AllPairs R (listed xs paging)
AllPairs-listed R xs One pairs = pairs
AllPairs-listed R xs (Of page pages) pairs = AllPairs-part R (34 * page) (34 * page + 34 - 34 * page) xs pairs

-- ---- a transmitter's entry on a page

-- the first element that passes is found
pub find_first : {X : Type 0} (p : X → Bool) (xs : List X) (k : ℕ) (d : X) → k < length xs → p (get_or xs k d) ≡ true
    → ((i : ℕ) → i < k → p (get_or xs i d) ≡ false) → find p xs ≡ Some (get_or xs k d)
find_first p [] k d l t f = absurd (omega arith)
find_first p (x ∷ xs) zero d l t f = cond-true (p x) (Some x) (find p xs) t
find_first p (x ∷ xs) (suc k) d l t f = cond-false (p x) (Some x) (find p xs) (f 0 (omega arith))
    ∙ find_first p xs k d (omega arith) t (λ i m. f (suc i) (omega arith))

-- and none, where none passes
find_none : {X : Type 0} (p : X → Bool) (xs : List X) (d : X)
    → ((i : ℕ) → i < length xs → p (get_or xs i d) ≡ false) → find p xs ≡ None
find_none p [] d f = refl
find_none p (x ∷ xs) d f = cond-false (p x) (Some x) (find p xs) (f 0 (omega arith))
    ∙ find_none p xs d (λ i m. f (suc i) (omega arith))

-- the transmitters at two places have two addresses
two_addresses : (ts : List Transmitter) (i k : ℕ) (d : Transmitter) → IsDistinct nat_eq (addresses_of ts)
    → i < length ts → k < length ts → i ≢ k → (get_or ts i d).address ≢ (get_or ts k d).address
two_addresses ts i k d distinct here there apart =
    let pairs : AllPairs (λ a b. a ≢ b) (addresses_of ts) =
    AllPairs-from_IsDistinct Decides-eqb (addresses_of ts) distinct in
    let long : length (addresses_of ts) ≡ length ts = length-map ts (λ (t : Transmitter). t.address) in
    elim (cases_lt i k) [
      | inl l ↦ λ same.
          pairs i k d.address l (omega (arith, there, long)) (at i here ∙ same ∙ sym (at k there))
      | inr l ↦ λ same.
          pairs k i d.address (omega (arith, l, apart)) (omega (arith, here, long))
          (at k there ∙ sym same ∙ sym (at i here))
    ]
  where
    at : (j : ℕ) → j < length ts → get_or (addresses_of ts) j d.address ≡ (get_or ts j d).address
    at j l = get_or-map (λ (t : Transmitter). t.address) ts j d d.address l

-- the test by which an entry is found
abbrev has : Transmitter → Entry → Bool
has t e = e.address == t.address

-- entry k of a part of the transmitters
part_at : (ts : List Transmitter) (m n k : ℕ) (t : Transmitter) → k < length (take n (drop m ts))
    → get_or (map entry_of (take n (drop m ts))) k (entry_of t) ≡ entry_of (get_or ts (m + k) t)
part_at ts m n k t h = grind (arith, get_or-map, get_or-take, length-take, get_or-drop)

-- an entry of a part that stands elsewhere is another one's
other_at : (ts : List Transmitter) (m n i k : ℕ) (t : Transmitter) → IsDistinct nat_eq (addresses_of ts)
    → slice_get ts i ≡ Some t → k < length (take n (drop m ts)) → m + k ≢ i
    → has t (get_or (map entry_of (take n (drop m ts))) k (entry_of t)) ≡ false
other_at ts m n i k t distinct at within apart = ap (has t) (part_at ts m n k t within)
    ∙ ne_eqb (get_or ts (m + k) t).address t.address (λ same.
    two_addresses ts (m + k) i t distinct (grind (arith, length-take, length-drop)) (slice_get_within ts i t at) apart
    (same ∙ ap (λ (u : Transmitter). u.address) (sym (get_or_from_slice_get ts i t t at))))

part_finds : (ts : List Transmitter) (m n i : ℕ) (t : Transmitter) → IsDistinct nat_eq (addresses_of ts)
    → slice_get ts i ≡ Some t → m ≤ i → i < m + n → find (has t) (map entry_of (take n (drop m ts))) ≡ Some (entry_of t)
part_finds ts m n i t distinct at from to =
    let inside : i < length ts = slice_get_within ts i t at in
    let part : List Transmitter = take n (drop m ts) in
    let k : ℕ = i - m in
    let within : k < length part = omega (arith, inside, from, to, length-take n (drop m ts), length-drop m ts) in
    let place : m + k ≡ i = omega (arith, from) in
    let here : get_or (map entry_of part) k (entry_of t) ≡ entry_of t = grind (arith, part_at, get_or_from_slice_get) in
    find_first (has t) (map entry_of part) k (entry_of t) (omega (arith, within, length-map part entry_of))
    (eq-eqb (get_or (map entry_of part) k (entry_of t)).address t.address (ap (λ (e : Entry). e.address) here))
    (λ j l. grind (arith, other_at)) ∙ ap Some here

part_misses : (ts : List Transmitter) (m n i : ℕ) (t : Transmitter) → IsDistinct nat_eq (addresses_of ts)
    → slice_get ts i ≡ Some t → (m ≤ i → m + n ≤ i) → find (has t) (map entry_of (take n (drop m ts))) ≡ None
part_misses ts m n i t distinct at apart = find_none (has t) (map entry_of (take n (drop m ts))) (entry_of t)
    (λ k l. grind (arith, length-map, other_at, length-take))

on_page : (ts : List Transmitter) (page pages i : ℕ) (t : Transmitter) → IsDistinct nat_eq (addresses_of ts)
    → slice_get ts i ≡ Some t → (page ≡ i / 34) ⊎ (page ≢ i / 34)
    → find (has t) (map entry_of (listed ts (Of page pages))) ≡ cond (page == i / 34) (Some (entry_of t)) None
on_page ts page pages i t distinct at (inl same) = grind (arith, part_finds, cond-true, eq-eqb)
on_page ts page pages i t distinct at (inr other) = grind (arith, part_misses, cond-false)

same_or_not : (n m : ℕ) → (n ≡ m) ⊎ (n ≢ m)
same_or_not n m = grind (arith, cases_Bool, eqb-true, eq-eqb)

-- a transmitter's own entry is found on its page, and on no other one
pub entry_on_page : (ts : List Transmitter) (paging : Paging) (i : ℕ) (t : Transmitter)
    → IsDistinct nat_eq (addresses_of ts) → slice_get ts i ≡ Some t
    → find (λ e. e.address == t.address) (map entry_of (listed ts paging))
    ≡ cond (is_listed paging i) (Some (entry_of t)) None
entry_on_page ts One i t distinct at =
    ap (λ part. find (has t) (map entry_of part)) (sym (take_all (length ts) ts (omega arith)))
    ∙ part_finds ts 0 (length ts) i t distinct at (omega arith) (omega (arith, slice_get_within ts i t at))
entry_on_page ts (Of page pages) i t distinct at = on_page ts page pages i t distinct at (same_or_not page (i / 34))
