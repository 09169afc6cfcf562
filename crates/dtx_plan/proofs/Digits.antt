-- Twelve digits and the states that they spell.
use Rattle.std.proofs.Common.{◌≡◌, ℕ, ◌+◌, ◌<◌, ◌≤◌, Bool, true, List, [], ◌∷◌, length, map, take, get_or, set, refl}
use Rattle.std.proofs.Common.{ap, sym, ◌∙◌}
use Rattle.std.proofs.lemmas.Bool.{le-leb}
use Rattle.std.proofs.lemmas.List.{take_all, take_more, take_more_set, map-append}
use Rattle.std.proofs.lemmas.List.Folds.{list_all-append}
use Rattle.std.specs.List.{list_all}
use Rattle.dtx_plan.specs.EventTable.{is_state}

-- each digit that is read gives a state
pub read_more : (state_of : ℕ → ℕ) (states digits : List ℕ) (i : ℕ) → i < length states → i < length digits
    → take i states ≡ map state_of (take i digits)
    → take (i + 1) (set states i (state_of (get_or digits i 0))) ≡ map state_of (take (i + 1) digits)
read_more state_of states digits i h k e = rw (
  take_more_set states i (state_of (get_or digits i 0)) h,
  take_more digits i 0 k,
  map-append,
  e,
) refl

pub in_digits : (digit : ℕ) → 48 ≤ digit → digit ≤ 55 → is_state digit ≡ true
in_digits digit low high = rw (le-leb 48 digit low, le-leb digit 55 high) refl

-- each digit that is read passes a test
pub sound_more : (test : ℕ → Bool) (digits : List ℕ) (i : ℕ) → i < length digits → test (get_or digits i 0) ≡ true
    → list_all test (take i digits) ≡ true → list_all test (take (i + 1) digits) ≡ true
sound_more test digits i h here e = rw (
  take_more digits i 0 h,
  list_all-append test (take i digits) (get_or digits i 0 ∷ []),
  e,
  here,
) refl

-- all of the states
pub all_read : (state_of : ℕ → ℕ) (states digits : List ℕ) (i : ℕ) → length states ≤ i → length digits ≤ i
    → take i states ≡ map state_of (take i digits) → states ≡ map state_of digits
all_read state_of states digits i h k e = sym (take_all i states h) ∙ e ∙ ap (map state_of) (take_all i digits k)
