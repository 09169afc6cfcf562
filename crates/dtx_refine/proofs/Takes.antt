-- A refiner that takes symbols.
use Rattle.std.proofs.Common.{◌≡◌, ℕ, ℤ, ◌+◌, ◌-◌, ◌*◌, ◌<◌, ◌≤◌, ◌⊎◌, inl, inr, Bool, true, false, cond, List, []}
use Rattle.std.proofs.Common.{◌++◌, length, take, sym, ap, ◌∙◌, subst, arith, length-append}
use Rattle.std.proofs.lemmas.Bool.{cond-false}
use Rattle.std.proofs.lemmas.List.{append-nil, append_assoc}
use Rattle.dtx_acquire.specs.Acquired.{acquired, acquired_so_far, heard_so_far}
use Rattle.dtx_acquire.specs.Acquirer.{Holding}
use Rattle.dtx_acquire.specs.Acquirer as acquirers
use Rattle.dtx_acquire.proofs.AcquiredLemmas.{length-heard_so_far}
use Rattle.dtx_rounds.specs.RunField.{rows_of}
use Rattle.dtx_rounds.specs.Rounds.{fields_in, heard_of, refined, refined_so_far, settled_count}
use Rattle.dtx_rounds.proofs.SoFarLemmas.{acquired_ahead, heard_ahead}
use Rattle.dtx_refine.specs.Refiner.{ArePassed, HasTaken, IsField, given_of, StandsFor, refining}
use Rattle.dtx_refine.specs.declared.passes.Passes.{Passes}
use Rattle.dtx_refine.proofs.Steps.{field_behind, given_few, given_next, given_none}

-- ---- the field that the acquirer gave

-- the field that came of more symbols, in every capture that goes on from there
field_taken : (acquirer : Holding) (before now more : List ℤ) (t : ℕ)
    → acquired_so_far acquirer.scale now ≡ acquired_so_far acquirer.scale before ++ acquirer.given
    → heard_so_far now ≡ heard_so_far before ++ acquirer.heard
    → length (acquired_so_far acquirer.scale before) ≡ 313 * t → length acquirer.given ≡ 313
    → length acquirer.heard ≡ length acquirer.given → IsField acquirer (now ++ more) t
field_taken acquirer before now more t so_far heard long whole same =
    let a : (others : List (List ℤ)) ×
    (acquired acquirer.scale (now ++ more) ≡ acquired_so_far acquirer.scale now ++ others) =
    acquired_ahead acquirer.scale now more in
    let segments : acquired acquirer.scale (now ++ more) ≡
    (acquired_so_far acquirer.scale before ++ acquirer.given) ++ a.0 = a.1 ∙ ap (λ xs. xs ++ a.0) so_far in
    let h : (others : List (List ℤ)) × (heard_of (now ++ more) ≡ heard_so_far now ++ others) = heard_ahead now more in
    record {
      within = omega (
        arith,
        long,
        whole,
        ap length segments,
        length-append (acquired_so_far acquirer.scale before ++ acquirer.given) a.0,
        length-append (acquired_so_far acquirer.scale before) acquirer.given,
      );
      given_are = sym (ap (λ xs. rows_of xs t) segments
          ∙ field_behind t (acquired_so_far acquirer.scale before) acquirer.given a.0 long whole);
      heard_are = sym (grind (arith, field_behind, length-heard_so_far));
    }

-- ---- the refiner

-- An acquirer took some symbols, and rounds what it gave of them.
pub record HasTakenSymbols (acquirer now_acquirer : Holding) (passes now_passes : Passes) (before now : List ℤ)
    : Type 0 where
  pub stands : acquirers.StandsFor now_acquirer now
  pub so_far : acquired_so_far acquirer.scale now ≡ acquired_so_far acquirer.scale before ++ now_acquirer.given
  pub heard : heard_so_far now ≡ heard_so_far before ++ now_acquirer.heard
  pub whole : (now_acquirer.given ≡ []) ⊎ (length now_acquirer.given ≡ 313)
  pub same : length now_acquirer.heard ≡ length now_acquirer.given
  pub taken : (symbols : List ℤ) (t : ℕ) → ArePassed now_acquirer.scale symbols t passes
      → (0 < length now_acquirer.given → IsField now_acquirer symbols t)
      → HasTaken now_acquirer.scale symbols t (fields_in now_acquirer.given) passes now_passes
  pub scale_is : now_acquirer.scale ≡ acquirer.scale
  pub count_is : now_passes.count ≡ passes.count

-- how many segments more can wait before the end of the symbols
pub waiting_then : (ended : Bool) → ended ≡ false → ◌≡◌ {A = ℕ} (cond ended 0 313) 313
waiting_then ended e = cond-false ended 0 313 e

module _ (a b : Holding) (p q : Passes) (ended : Bool) (before more : List ℤ)
    (was : StandsFor (refining a p ended) before) (h : HasTakenSymbols a b p q before (before ++ more)) where
  abbrev fields : ℕ
  fields = fields_in b.given

  long_given : length b.given ≡ 313 * fields
  long_given = by_whole h.whole
    where
      by_whole : (b.given ≡ []) ⊎ (length b.given ≡ 313) → length b.given ≡ 313 * fields
      by_whole (inl e) = omega (arith, ap length e)
      by_whole (inr e) = omega (arith, e)

  long_now : length (acquired_so_far a.scale (before ++ more)) ≡ 313 * (was.taken + fields)
  long_now =
      omega (arith, ap length h.so_far, length-append (acquired_so_far a.scale before) b.given, long_given, was.long)

  is_field : (others : List ℤ) → 0 < length b.given → IsField b ((before ++ more) ++ others) was.taken
  is_field others l =
      field_taken b before (before ++ more) others was.taken
      (subst (λ s. acquired_so_far s (before ++ more) ≡ acquired_so_far s before ++ b.given) (sym h.scale_is) h.so_far)
      h.heard (ap (λ s. length (acquired_so_far s before)) h.scale_is ∙ was.long) (by_whole h.whole) h.same
    where
      by_whole : (b.given ≡ []) ⊎ (length b.given ≡ 313) → length b.given ≡ 313
      by_whole (inl e) = absurd (omega (arith, ap length e, l))
      by_whole (inr e) = e

  taken_all : (others : List ℤ) → HasTaken b.scale ((before ++ more) ++ others) was.taken fields p q
  taken_all others =
      h.taken ((before ++ more) ++ others) was.taken
      (subst (λ s. ArePassed s ((before ++ more) ++ others) was.taken p) (sym h.scale_is)
      (subst (λ symbols. ArePassed a.scale symbols was.taken p) (sym (append_assoc before more others))
      (was.passed (more ++ others)))) (is_field others)

  taken_now : HasTaken a.scale (before ++ more) was.taken fields p q
  taken_now =
      subst (λ s. HasTaken s (before ++ more) was.taken fields p q) h.scale_is
      (subst (λ symbols. HasTaken b.scale symbols was.taken fields p q) (append-nil (before ++ more)) (taken_all []))

  pub stands_now : StandsFor (refining b q ended) (before ++ more)
  stands_now = record {
    acquirer = h.stands;
    going = was.going;
    taken = was.taken + fields;
    long = ap (λ s. length (acquired_so_far s (before ++ more))) h.scale_is ∙ long_now;
    passed = λ others. (taken_all others).given.passed;
    done = taken_now.waits was.done ∙ ap (λ n. was.taken + fields - n) (sym h.count_is);
    few = omega (
      arith,
      waiting_then ended was.going,
      taken_now.given.passed.all,
      taken_now.waits was.done,
      h.count_is,
    );
  }

  pub given_now : (refined_so_far a.scale before p.count
      ≡ take (length (acquired_so_far a.scale before) - 313 * p.count) (refined a.scale (before ++ more) p.count))
      → refined_so_far a.scale (before ++ more) p.count ≡ refined_so_far a.scale before p.count ++ given_of q
  unfolding refined_so_far settled_count
  given_now grows =
      ap (λ n. take n (refined a.scale (before ++ more) p.count)) count_now
      ∙ given_next a.scale (was.taken + fields) (before ++ more) p q taken_now.given
      ∙ ap (λ n. take n (refined a.scale (before ++ more) p.count) ++ given_of q) (sym count_before)
      ∙ ap (λ xs. xs ++ given_of q) (sym grows)
    where
      count_now : length (acquired_so_far a.scale (before ++ more)) - 313 * p.count ≡ 313 * q.numbers.done
      count_now = omega (arith, long_now, taken_now.waits was.done)

      count_before : length (acquired_so_far a.scale before) - 313 * p.count ≡ 313 * p.numbers.done
      count_before = omega (arith, was.long, was.done)

-- ---- how many segments

pub few_whole : (given : List (List ℤ)) → (given ≡ []) ⊎ (length given ≡ 313) → length given ≤ 313
few_whole given (inl e) = omega (arith, ap length e)
few_whole given (inr e) = omega (arith, e)

-- no more segments than the acquirer gave
pub given_within : (p : Passes) (given : List (List ℤ)) → (p.gives ≡ true → 0 < length given)
    → (given ≡ []) ⊎ (length given ≡ 313) → length (given_of p) ≤ length given
given_within p given some whole = grind (arith, given_few, given_none)
