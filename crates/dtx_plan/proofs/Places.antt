-- The map that holds the places of transmitters.
use Rattle.std.proofs.Common.{◌≡◌, ℕ, true, false, Option, Some, None, List, [], ◌∷◌, ◌++◌, length, refl, arith}
use Rattle.std.specs.Prelude.{is_some}
use Rattle.std.specs.Option.{option_or}
use Rattle.std.specs.BTreeMap.{BTreeMap, get, Updates}
use Rattle.std.specs.Ordering.{nat_cmp, is_eq}
use Rattle.std.proofs.lemmas.Bool.{cases_eq, eq-eqb, ne_eqb, le-ltb}
use Rattle.std.proofs.lemmas.Bool.Decides.{nat_tests}
use Rattle.dtx_plan.specs.declared.transmitter.Transmitter.{Transmitter}
use Rattle.dtx_plan.specs.TransmitterTable.{transmitter_place, ArePlaces}
use Rattle.dtx_plan.proofs.PlacesLemmas.{place_more}

-- ---- keys

key_here : (a : ℕ) → is_eq (nat_cmp a a) ≡ true
key_here a = rw (le-ltb a a (omega arith), eq-eqb a a refl) refl

key_elsewhere : (a b : ℕ) → (b ≡ a → ⊥) → is_eq (nat_cmp a b) ≡ false
key_elsewhere a b other = grind (arith, nat_tests)

or_none : {X : Type 0} (o : Option X) → option_or o None ≡ o
or_none None = refl
or_none (Some x) = refl

none_from : {X : Type 0} (o : Option X) → is_some o ≡ false → o ≡ None
none_from None e = refl
none_from (Some x) e = cc

or_kept : {X : Type 0} (o other : Option X) → is_some o ≡ true → option_or o other ≡ o
or_kept None other e = cc
or_kept (Some x) other e = refl

-- ---- the map

-- that of none
pub none_placed : (places : BTreeMap ℕ ℕ) (ts : List Transmitter) → places.entries ≡ [] → ts ≡ [] → ArePlaces places ts
unfolding transmitter_place
none_placed places ts empty none = λ address. rw (empty, none) refl

-- that of one more, whose address no earlier one has
pub more_placed : (old places : BTreeMap ℕ ℕ) (ts : List Transmitter) (t : Transmitter) (place : ℕ)
    → ArePlaces old ts → place ≡ length ts → is_some (get nat_cmp old t.address) ≡ false
    → Updates nat_cmp old places t.address (Some place) → ArePlaces places (ts ++ t ∷ [])
more_placed old places ts t place are last absent updates =
    grind (arith, cases_eq, key_here, place_more, none_from, eq-eqb, key_elsewhere, ne_eqb, or_none)

-- that of one more, whose address an earlier one has
pub same_placed : (places : BTreeMap ℕ ℕ) (ts : List Transmitter) (t : Transmitter) → ArePlaces places ts
    → is_some (get nat_cmp places t.address) ≡ true → ArePlaces places (ts ++ t ∷ [])
same_placed places ts t are known = grind (arith, cases_eq, place_more, or_kept, ne_eqb, or_none)
