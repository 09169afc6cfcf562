-- The place of an address: with one transmitter more, and whether there is one.
use Rattle.std.proofs.Common.{◌≡◌, ℕ, ◌+◌, ◌<◌, ◌≤◌, inl, inr, Bool, cond, Option, Some, None, List, [], ◌∷◌, ◌++◌}
use Rattle.std.proofs.Common.{length, refl, arith}
use Rattle.std.specs.Prelude.{nat_eq, nat_lt, position, is_some, IfSome}
use Rattle.std.specs.Option.{option_or}
use Rattle.std.specs.List.{list_any, position_or_len}
use Rattle.std.proofs.lemmas.Bool.{cases_lt, lt-ltb, le-ltb, eq-eqb, ne_eqb}
use Rattle.std.proofs.lemmas.List.{map-append, length-map, length_push}
use Rattle.std.proofs.lemmas.List.Elements.{All-from_get_or}
use Rattle.std.proofs.lemmas.List.Folds.{list_any_at, list_any_none, position_or_len_push}
use Rattle.std.proofs.lemmas.List.Quantifiers.{position-Some}
use Rattle.std.proofs.lemmas.List.Sums.{prefix_len-le-length, fails_before_first, passes_at_first}
use Rattle.dtx_plan.specs.declared.transmitter.Transmitter.{Transmitter}
use Rattle.dtx_plan.specs.TransmitterTable.{addresses_of, has_address, transmitter_place}

-- ---- the first place that passes

-- a place below a length, and none else
abbrev below : ℕ → ℕ → Option ℕ
below n long = cond (nat_lt n long) (Some n) None

below_more : (n long : ℕ) (passes : Bool) → n ≤ long
    → below (cond (nat_eq n long) (long + cond passes 0 1) n) (long + 1)
    ≡ option_or (below n long) (cond passes (Some long) None)
below_more n long passes l = grind (arith, cases_lt, ne_eqb, lt-ltb, eq-eqb, le-ltb)

position_more : (p : ℕ → Bool) (xs : List ℕ) (x : ℕ)
    → position p (xs ++ x ∷ []) ≡ option_or (position p xs) (cond (p x) (Some (length xs)) None)
position_more p xs x = grind (arith, position_or_len_push, length_push, below_more, prefix_len-le-length)

any_is_position : (p : ℕ → Bool) (xs : List ℕ) → list_any p xs ≡ is_some (position p xs)
any_is_position p xs = elim (cases_lt (position_or_len p xs) (length xs)) [
  | inl within ↦ rw (
    lt-ltb (position_or_len p xs) (length xs) within,
    list_any_at p xs (position_or_len p xs) 0 within (passes_at_first p xs 0 within),
  ) refl
  | inr past ↦ grind (arith, le-ltb, list_any_none, All-from_get_or, fails_before_first)
]

-- ---- transmitters

-- the place of an address is an earlier one, or that of the transmitter behind the others
pub place_more : (address : ℕ) (ts : List Transmitter) (t : Transmitter) → transmitter_place address (ts ++ t ∷ [])
    ≡ option_or (transmitter_place address ts) (cond (nat_eq address t.address) (Some (length ts)) None)
unfolding transmitter_place
place_more address ts t = grind (arith, map-append, position_more, length-map)

-- an address of some transmitter has a place, and no other one has
pub has_place : (address : ℕ) (ts : List Transmitter) → has_address address ts ≡ is_some (transmitter_place address ts)
unfolding transmitter_place
has_place address ts = any_is_position (nat_eq address) (addresses_of ts)

-- it is a place of the list
pub place_within : (address : ℕ) (ts : List Transmitter) (found : Option ℕ) → found ≡ transmitter_place address ts
    → IfSome found (λ place. place < length ts)
unfolding transmitter_place
place_within address ts None e = tt
place_within address ts (Some place) e = grind (arith, position-Some, length-map)
