-- What is true of an acquirer's fields, step by step.
use Rattle.std.proofs.Common.{◌≡◌, ℕ, ℤ, ◌+◌, ◌*◌, ◌≤◌, Bool, true, false, List, [], ◌++◌, length, drop}
use Rattle.std.proofs.Common.{refl, sym, ap, ◌∙◌, subst, arith, length-append}
use Rattle.std.proofs.lemmas.List.{length-drop}
use Rattle.dtx_acquire.specs.Agreement.{agrees}
use Rattle.dtx_acquire.proofs.AgreementLemmas.{past_end}
use Rattle.dtx_acquire.specs.Acquired.{path_cost, segments_from}
use Rattle.dtx_acquire.specs.Acquirer.{IsFit, IsSought}
use Rattle.dtx_acquire.proofs.WholeLemmas.{length-segments_from}
use Rattle.dtx_acquire.proofs.PlacesLemmas.{whole_there}
use Rattle.dtx_acquire.proofs.StepsLemmas.{agrees_front}

-- No symbol is gone where the others fill the buffer.
pub none_gone : {held : List ℤ} {gone : ℕ} {on : Bool} {symbols total scale count cost : ℕ}
    → IsFit held gone on symbols total scale count cost → length (drop gone held) ≡ 261248 → gone ≡ 0
none_gone {held} {gone} h full = omega (arith, full, h.few, h.within, length-drop gone held)

pub none_given : (symbols : List ℤ) (count : ℕ) → segments_from symbols 0 count ≡ [] → count ≡ 0
none_given symbols count e = sym (length-segments_from symbols 0 count) ∙ ap length e

-- Then symbols are sought among all that are held.
pub sought_all : {held new : List ℤ} {gone : ℕ} → gone ≡ 0 → IsSought held new
    → IsSought (drop gone held) (drop gone new)
sought_all {held} {new} kept sought = subst (λ n. IsSought (drop n held) (drop n new)) (sym kept) sought

pub fit_first : {held : List ℤ} {total scale count cost : ℕ} → held ≡ [] → total ≡ 0 → count ≡ 0 → cost ≡ 0
    → IsFit held 0 false 0 total scale count cost
unfolding segments_from
fit_first {held} {total} {scale} e counted none free = grind arith

-- more symbols, once those that are gone are dropped
pub fit_more : {held taken : List ℤ} {gone : ℕ} {on : Bool} {symbols total scale count cost n : ℕ} (more : List ℤ)
    (all : ℕ) → IsFit held gone on symbols total scale count cost → taken ≡ drop gone held ++ more → length more ≡ n
    → symbols + all ≤ 520832000000 → n ≤ all → length taken ≤ 261248 → IsFit taken 0 on (symbols + n) total scale 0 0
unfolding segments_from
fit_more {held} {taken} {gone} more all h e long most part few = record {
  room = omega (arith, h.room, ap length e, long, length-append (drop gone held) more);
  most = omega arith;
  front = λ is.
      ap (λ (xs : List ℤ). agrees xs 0) e
      ∙ agrees_front (drop gone held) more 0 (whole_there agrees past_end (drop gone held) 0 (h.front is))
      ∙ h.front is;
  few = few;
  within = omega arith;
  whole = omega arith;
  costs = refl;
}

-- symbols in front were let go, and none was given
pub fit_sought : {held new : List ℤ} {gone : ℕ} {on found : Bool} {symbols total scale count cost : ℕ}
    → IsFit held gone on symbols total scale count cost → gone ≡ 0 → count ≡ 0 → IsSought held new
    → (found ≡ true → agrees new 0 ≡ true) → IsFit new gone found symbols total scale count cost
unfolding segments_from
fit_sought {held} {new} {gone} {scale = scale} h kept none sought front = grind (arith, length-drop)

-- segments in front were given
pub fit_given : {held : List ℤ} {gone : ℕ} {on : Bool} {symbols total scale was count given cost : ℕ} (before : ℕ)
    → 832 * before + length held ≤ symbols → symbols ≤ 520832000000 → length held ≤ 261248
    → (on ≡ true → agrees (drop gone held) 0 ≡ true) → gone ≤ length held → 832 * given ≤ gone
    → total ≡ before + given → scale ≡ was → count ≡ given → cost ≡ path_cost was (segments_from held 0 given)
    → IsFit held gone on symbols total scale count cost
fit_given {held} {gone} {was = was} {count = count} before room most few front within whole counted same many
    costs = record {
      room = omega (arith, room, whole, within, counted, length-drop gone held);
      most = most;
      front = front;
      few = few;
      within = within;
      whole = omega (arith, whole, within, many);
      costs = costs ∙ ap (λ n. path_cost was (segments_from held 0 n)) (sym many)
          ∙ ap (λ n. path_cost n (segments_from held 0 count)) (sym same);
    }
