-- Pages take turns, so that each comes among so many groups that hold placeholders.
use Rattle.std.proofs.Common.{◌≡◌, ◌⊎◌, inl, inr, ℕ, zero, suc, ◌+◌, ◌-◌, ◌/◌, ◌%◌, ◌<◌, ◌≤◌, Bool, true, false}
use Rattle.std.proofs.Common.{cond, List, length, refl, sym, ap, ◌∙◌, arith}
use Rattle.std.proofs.Math.Nat.{add-mod-mod, mod-add-mod, add-mod_right, mod-eq_of_lt}
use Rattle.std.proofs.lemmas.Bool.{cases_lt, eq-eqb}
use Rattle.dtx_ops.specs.Paging.{pages_of}
use Rattle.dtx_adapter.specs.Feed.{pages_for, paging_of, is_listed, is_filled, filled_groups, IsListedIn}
use Rattle.dtx_adapter.proofs.GroupsLemmas.{filled_groups-suc}
use Rattle.dtx_adapter.proofs.PagesLemmas.{paging_of-few, paging_of-many, within_pages}

-- a number from c on, below c + pages, that leaves this rest
record WithRest (pages from rest : ℕ) : Type 0 where
  number : ℕ
  least : from ≤ number
  within : number < from + pages
  leaves : number % pages ≡ rest

with_rest : (pages from rest : ℕ) → rest < pages → WithRest pages from rest
with_rest pages from rest below =
    let turn : ℕ = rest + pages - from % pages in
    let before : from % pages < pages = omega (arith, below) in
    let meets : from % pages + turn ≡ rest + pages = omega (arith, before) in
    let short : turn % pages < pages = omega (arith, below) in
    record {
      number = from + turn % pages;
      least = omega arith;
      within = omega (arith, short);
      leaves = add-mod-mod from turn pages ∙ sym (mod-add-mod from pages turn) ∙ ap (λ n. n % pages) meets
          ∙ add-mod_right rest pages
          ∙ mod-eq_of_lt below;
    }

-- A group from u on and before v that holds a placeholder, behind n others.
pub record IsTurn (stream : List (List ℕ)) (from to count : ℕ) : Type 0 where
  pub group : ℕ
  pub least : from ≤ group
  pub within : group < to
  pub filled : is_filled stream group ≡ true
  pub behind : filled_groups stream group ≡ count

one_more : (b : Bool) (n m : ℕ) → n ≤ m → m < n + cond b 1 0 → (b ≡ true) × (n ≡ m)
one_more true n m least below = (refl, omega arith)
one_more false n m least below = absurd (omega arith)

pub turn_comes : (stream : List (List ℕ)) (from to count : ℕ) → from ≤ to → filled_groups stream from ≤ count
    → count < filled_groups stream to → IsTurn stream from to count
turn_comes stream from zero count order least below =
    let same : from ≡ 0 = omega (arith, order) in
    absurd (omega (arith, least, below, ap (filled_groups stream) same))
turn_comes stream from (suc to) count order least below =
    by_cases (turn_comes stream from to count) (cases_lt count (filled_groups stream to)) (cases_lt to from)
  where
    by_cases : (from ≤ to → filled_groups stream from ≤ count → count < filled_groups stream to
        → IsTurn stream from to count) → (count < filled_groups stream to) ⊎ (filled_groups stream to ≤ count)
        → (to < from) ⊎ (from ≤ to) → IsTurn stream from (suc to) count
    by_cases earlier past (inl behind) =
        let same : from ≡ suc to = omega arith in
        absurd (omega (arith, least, below, ap (filled_groups stream) same))
    by_cases earlier (inl past) (inr inside) = grind arith
    by_cases earlier (inr reached) (inr inside) = grind (arith, one_more, filled_groups-suc)

few_in_turn : {X : Type 0} (ts : List X) (stream : List (List ℕ)) (from to place : ℕ) → length ts ≤ 35 → from ≤ to
    → filled_groups stream from + pages_of (paging_of ts 0) ≤ filled_groups stream to
    → IsListedIn ts stream from to place
few_in_turn ts stream from to place few order turns =
    let one : pages_of (paging_of ts 0) ≡ 1 = ap pages_of (paging_of-few ts 0 few) in
    let turn = turn_comes stream from to (filled_groups stream from) order (omega arith) (omega (arith, turns, one)) in
    record {
      group = turn.group;
      least = turn.least;
      within = turn.within;
      filled = turn.filled;
      listed = ap (λ p. is_listed p place) (paging_of-few ts (filled_groups stream turn.group) few);
    }

many_in_turn : {X : Type 0} (ts : List X) (stream : List (List ℕ)) (from to place : ℕ) → 35 < length ts → from ≤ to
    → filled_groups stream from + pages_of (paging_of ts 0) ≤ filled_groups stream to → place < length ts
    → IsListedIn ts stream from to place
many_in_turn ts stream from to place many order turns inside =
    let pages : ℕ = pages_for (length ts) in
    let all : pages_of (paging_of ts 0) ≡ pages = ap pages_of (paging_of-many ts 0 many) in
    let rest = with_rest pages (filled_groups stream from) (place / 34) (within_pages place (length ts) inside) in
    let below = rest.within in
    let turn = turn_comes stream from to rest.number order rest.least (omega (arith, turns, all, below)) in
    let behind = turn.behind in
    record {
      group = turn.group;
      least = turn.least;
      within = turn.within;
      filled = turn.filled;
      listed = ap (λ p. is_listed p place) (paging_of-many ts (filled_groups stream turn.group) many)
          ∙ eq-eqb (filled_groups stream turn.group % pages) (place / 34) (ap (λ n. n % pages) behind ∙ rest.leaves);
    }

-- among as many groups as there are pages, one lists the transmitter
pub in_turn : {X : Type 0} (ts : List X) (stream : List (List ℕ)) (from to place : ℕ) → from ≤ to
    → filled_groups stream from + pages_of (paging_of ts 0) ≤ filled_groups stream to → place < length ts
    → IsListedIn ts stream from to place
in_turn ts stream from to place order turns inside = grind (arith, cases_lt, many_in_turn, few_in_turn)
