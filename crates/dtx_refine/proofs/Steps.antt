-- One field more that goes through the rounds, and one that they give, with the numbers of those that had all rounds.
use Rattle.std.proofs.Common.{◌≡◌, ℕ, ℤ, ◌+◌, ◌-◌, ◌*◌, ◌<◌, ◌≤◌, Bool, true, false, cond, eqb, List, [], ◌∷◌, ◌++◌}
use Rattle.std.proofs.Common.{append_assoc, arith, drop, length, map, refl, subst, sum, sym, take, take-add, ap, ◌∙◌}
use Rattle.std.specs.List.{range_with_len}
use Rattle.std.proofs.lemmas.Bool.{cond-false, cond-true, eq-eqb, eqb-false, eqb-true, ne_eqb, leb-false, leb-true}
use Rattle.std.proofs.lemmas.Bool.{true≢false}
use Rattle.std.proofs.lemmas.List.{append-nil, drop-drop, drop_at, length-drop, length-take, take_all, take_at}
use Rattle.std.proofs.lemmas.List.FromFn.{sum_by-map-range_with_len_more}
use Rattle.dtx_lists.proofs.Range.{map-range_same}
use Rattle.dtx_soft.specs.Softened.{softened_cost}
use Rattle.dtx_acquire.specs.Acquired.{acquired, in_groups, path_cost}
use Rattle.dtx_acquire.specs.Sent.{groups_behind}
use Rattle.dtx_rounds.specs.Decided.{decided_rows}
use Rattle.dtx_rounds.specs.FieldRound.{words_known}
use Rattle.dtx_rounds.specs.RunField.{rows_of, IsRounded}
use Rattle.dtx_rounds.specs.RunRounds.{AreFinished, AreMade, AreTaken, IsGiven}
use Rattle.dtx_rounds.specs.Rounds.{fields_in, groups_in, heard_of, refined}
use Rattle.dtx_rounds.specs.declared.field.Field.{Field}
use Rattle.dtx_rounds.proofs.GivenLemmas.{given_last, given_segments}
use Rattle.dtx_rounds.proofs.SoFarLemmas.{length-refined}
use Rattle.dtx_refine.specs.Refiner.{AreCounted, ArePassed, HasEndedOne, HasGiven, HasTaken, IsAdded, given_of}
use Rattle.dtx_refine.specs.declared.numbers.Numbers.{Numbers}
use Rattle.dtx_refine.specs.declared.passes.Passes.{Passes}

-- ---- a field among segments

-- a whole field behind other segments
pub field_behind : {A : Type 0} (t : ℕ) (front field back : List A) → length front ≡ 313 * t → length field ≡ 313
    → take 313 (drop (313 * t) ((front ++ field) ++ back)) ≡ field
field_behind t front field back f l = simp (append_assoc, drop_at, take_at)

-- the last field, which may have fewer segments
pub field_last : {A : Type 0} (t : ℕ) (front field : List A) → length front ≡ 313 * t → length field ≤ 313
    → take 313 (drop (313 * t) (front ++ field)) ≡ field
field_last t front field f l = ap (take 313) (drop_at front field (313 * t) f) ∙ take_all 313 field l

-- ---- the numbers of fields

-- the fields with one more at place n
abbrev with_last : ℕ → Field → (ℕ → Field) → ℕ → Field
with_last n last fields f = cond (eqb f n) last (fields f)

at_last : (n : ℕ) (last : Field) (fields : ℕ → Field) → with_last n last fields n ≡ last
at_last n last fields = cond-true (eqb n n) last (fields n) (eq-eqb n n refl)

before_last : (n : ℕ) (last : Field) (fields : ℕ → Field) (f : ℕ) → f < n → with_last n last fields f ≡ fields f
before_last n last fields f l = cond-false (eqb f n) last (fields f) (ne_eqb f n (λ e. absurd (omega (arith, e, l))))

sum_more : (g : Field → ℕ) (n total : ℕ) (last : Field) (fields : ℕ → Field)
    → total ≡ sum (map (λ f. g (fields f)) (range_with_len 0 n))
    → total + g last ≡ sum (map (λ f. g (with_last n last fields f)) (range_with_len 0 (n + 1)))
sum_more g n total last fields e = grind (arith, sum_by-map-range_with_len_more, map-range_same, before_last, at_last)

-- a field more
pub counted_next : (scale rounds : ℕ) (symbols : List ℤ) (old new : Numbers) (field : Field)
    → AreCounted scale rounds symbols old
    → IsRounded scale (heard_of symbols) (refined scale symbols (rounds - 1)) old.done field
    → IsAdded field old new → AreCounted scale rounds symbols new
counted_next scale rounds symbols old new field h r a = record {
  field = fields;
  rounded = λ f l. by_place f (eqb f old.done) refl (omega (arith, l, a.done_is));
  known_are = a.known_is ∙ more (λ (x : Field). words_known x.words) old.known h.known_are;
  cost_is = a.cost_is ∙ more (λ (x : Field). x.cost) old.cost h.cost_is;
  moved_are = a.moved_is ∙ more (λ (x : Field). x.moved) old.moved h.moved_are;
}
  where
    fields : ℕ → Field
    fields = with_last old.done field h.field

    more : (g : Field → ℕ) (total : ℕ) → total ≡ sum (map (λ f. g (h.field f)) (range_with_len 0 old.done))
        → total + g field ≡ sum (map (λ f. g (fields f)) (range_with_len 0 new.done))
    more g total e = sum_more g old.done total field h.field e
        ∙ ap (λ n. sum (map (λ f. g (fields f)) (range_with_len 0 n))) (sym a.done_is)

    given : List (List ℤ)
    given = refined scale symbols (rounds - 1)

    by_place : (f : ℕ) (b : Bool) → eqb f old.done ≡ b → f < old.done + 1
        → IsRounded scale (heard_of symbols) given f (fields f)
    by_place f true e l = grind (arith, eqb-true, at_last)
    by_place f false e l = grind (arith, eqb-false, before_last)

-- ---- the cost of a field's paths

tail_same : (xs : List (List ℤ)) (sync : List ℤ) (others : List (List ℤ)) → take 313 xs ≡ sync ∷ others
    → take 312 (drop 1 xs) ≡ others
tail_same [] sync others e = absurd (omega (arith, ap length e))
tail_same (x ∷ xs) sync others e = ap (drop 1) e

pub field_cost_is : (scale t : ℕ) (heard rows : List (List ℤ)) → rows ≡ rows_of heard t → 0 < length rows
    → path_cost scale rows ≡ softened_cost scale (groups_in heard t)
unfolding groups_behind
field_cost_is scale t heard [] e l = absurd (omega (arith, l))
field_cost_is scale t heard (sync ∷ others) e l = ap (λ xs. softened_cost scale (in_groups xs))
    (sym (ap (take 312) (sym (drop-drop 1 (313 * t) heard)) ∙ tail_same (drop (313 * t) heard) sync others (sym e)))

-- ---- what was passed

made_now : (scale u : ℕ) (symbols : List ℤ) (old new : Passes) → 0 < scale → scale ≤ 18 → new.count ≡ old.count
    → AreMade scale (heard_of symbols) (acquired scale symbols) old.count u new.numbers.done new.rounds
    → new.held + new.numbers.done ≡ u → AreCounted scale old.count symbols new.numbers → ArePassed scale symbols u new
made_now scale u symbols old new some most count made all counted = grind arith

-- no field came yet
pub none_passed : (scale : ℕ) (symbols : List ℤ) (passes : Passes) → 0 < scale → scale ≤ 18
    → AreMade scale (heard_of symbols) (acquired scale symbols) passes.count 0 0 passes.rounds → passes.held ≡ 0
    → passes.numbers.done ≡ 0 → passes.numbers.known ≡ 0 → passes.numbers.cost ≡ 0 → passes.numbers.moved ≡ 0
    → ArePassed scale symbols 0 passes
none_passed scale symbols passes some most made held done known cost moved = grind arith

-- field `old.numbers.done` is given, with its numbers
module _ (scale u : ℕ) (symbols : List ℤ) (old new : Passes) where
  -- what is known of it
  rounded_now : IsGiven scale (heard_of symbols) (acquired scale symbols) [] old.count old.numbers.done new.field
      → IsRounded scale (heard_of symbols) (refined scale symbols (old.count - 1)) old.numbers.done new.field
  rounded_now g =
      given_last scale (old.count - 1) old.numbers.done symbols new.field
      (subst (λ n. IsGiven scale (heard_of symbols) (acquired scale symbols) [] n old.numbers.done new.field) back g)
    where
      back : old.count ≡ old.count - 1 + 1
      back = omega (arith, old.some)

  gave : (t : ℕ) → ArePassed scale symbols t old → new.gives ≡ true → new.count ≡ old.count
      → IsAdded new.field old.numbers new.numbers
      → AreMade scale (heard_of symbols) (acquired scale symbols) old.count u (old.numbers.done + 1) new.rounds
      → IsGiven scale (heard_of symbols) (acquired scale symbols) [] old.count old.numbers.done new.field
      → new.held + new.numbers.done ≡ u → HasGiven scale symbols u old new
  gave t h gives count added made given all = record {
    passed = made_now scale u symbols old new h.some h.most count
        (subst (λ n. AreMade scale (heard_of symbols) (acquired scale symbols) old.count u n new.rounds)
        (sym added.done_is) made) all
        (counted_next scale old.count symbols old.numbers new.numbers new.field h.counted (rounded_now given) added);
    done = added.done_is ∙ ap (λ b. old.numbers.done + cond b 1 0) (sym gives);
    given_are = λ _. given_segments scale old.count old.numbers.done symbols new.field given;
  }

  gave_none : (t : ℕ) → ArePassed scale symbols t old → new.gives ≡ false → new.count ≡ old.count
      → new.numbers ≡ old.numbers
      → AreMade scale (heard_of symbols) (acquired scale symbols) old.count u old.numbers.done new.rounds
      → new.held + old.numbers.done ≡ u → HasGiven scale symbols u old new
  gave_none t h gives count numbers made all = record {
    passed = made_now scale u symbols old new h.some h.most count
        (subst (λ x. AreMade scale (heard_of symbols) (acquired scale symbols) old.count u x.done new.rounds)
        (sym numbers) made) (ap (λ x. new.held + x.done) numbers ∙ all)
        (subst (AreCounted scale old.count symbols) (sym numbers) h.counted);
    done = ap (λ x. x.done) numbers ∙ same ∙ ap (λ b. old.numbers.done + cond b 1 0) (sym gives);
    given_are = λ wrong. absurd (true≢false (sym wrong ∙ gives));
  }
    where
      same : old.numbers.done ≡ old.numbers.done + 0
      same = omega arith

-- ---- a field more

module _ (scale t : ℕ) (symbols : List ℤ) (old new : Passes) (h : ArePassed scale symbols t old)
    (count : new.count ≡ old.count) where
  pub took : (answer : Bool) → AreTaken scale (heard_of symbols) (acquired scale symbols) old.count t old.numbers.done
      answer new.rounds new.field → answer ≡ true → new.gives ≡ true → new.held ≡ old.held
      → IsAdded new.field old.numbers new.numbers → HasTaken scale symbols t 1 old new
  took answer taken is gives held added = record {
    given = gave scale (t + 1) symbols old new t h gives count added
        (subst (λ b. AreMade scale (heard_of symbols) (acquired scale symbols) old.count (t + 1)
        (old.numbers.done + cond b 1 0) new.rounds) is taken.made)
        (taken.given_is is) (omega (arith, held, added.done_is, h.all));
    waits = λ e.
        (let room = leb-true (old.numbers.done + old.count) t (sym taken.answer_is ∙ is) in
        omega (arith, e, room, added.done_is));
  }

  pub kept : (answer : Bool) → AreTaken scale (heard_of symbols) (acquired scale symbols) old.count t old.numbers.done
      answer new.rounds new.field → answer ≡ false → new.gives ≡ false → new.held ≡ old.held + 1
      → new.numbers ≡ old.numbers → HasTaken scale symbols t 1 old new
  kept answer taken is gives held numbers = record {
    given = gave_none scale (t + 1) symbols old new t h gives count numbers
        (subst (λ n. AreMade scale (heard_of symbols) (acquired scale symbols) old.count (t + 1) n new.rounds) none
        (subst (λ b. AreMade scale (heard_of symbols) (acquired scale symbols) old.count (t + 1)
        (old.numbers.done + cond b 1 0) new.rounds) is taken.made))
        (omega (arith, held, h.all));
    waits = λ e.
        (let room = leb-false (old.numbers.done + old.count) t (sym taken.answer_is ∙ is) in
        ap (λ x. x.done) numbers ∙ omega (arith, e, room));
  }
    where
      none : old.numbers.done + 0 ≡ old.numbers.done
      none = omega arith

  pub idle : (n : ℕ) → n ≡ 0 → new.gives ≡ false → new.held ≡ old.held → new.numbers ≡ old.numbers
      → new.rounds ≡ old.rounds → HasTaken scale symbols t n old new
  idle n is gives held numbers rounds = record {
    given = gave_none scale (t + n) symbols old new t h gives count numbers
        (subst (λ n. AreMade scale (heard_of symbols) (acquired scale symbols) old.count n old.numbers.done new.rounds)
        none (subst (AreMade scale (heard_of symbols) (acquired scale symbols) old.count t old.numbers.done)
        (sym rounds) h.made))
        (omega (arith, held, h.all, is));
    waits = λ e. ap (λ x. x.done) numbers ∙ omega (arith, e, is);
  }
    where
      none : t ≡ t + n
      none = omega (arith, is)

-- ---- the end

module _ (scale : ℕ) (symbols : List ℤ) (old new : Passes)
    (h : ArePassed scale symbols (fields_in (acquired scale symbols)) old) (count : new.count ≡ old.count) where
  pub ended_one : (answer : Bool) → AreFinished scale (heard_of symbols) (acquired scale symbols) old.count
      (fields_in (acquired scale symbols)) old.numbers.done answer new.rounds new.field → answer ≡ true
      → new.gives ≡ true → new.held + 1 ≡ old.held → IsAdded new.field old.numbers new.numbers
      → HasEndedOne scale symbols old new
  ended_one answer ended is gives held added = record {
    given = gave scale (fields_in (acquired scale symbols)) symbols old new (fields_in (acquired scale symbols)) h gives
        count added
        (subst (λ b. AreMade scale (heard_of symbols) (acquired scale symbols) old.count
        (fields_in (acquired scale symbols)) (old.numbers.done + cond b 1 0) new.rounds) is ended.made)
        (ended.given_is is) (omega (arith, held, added.done_is, h.all));
    all = λ wrong. absurd (true≢false (sym gives ∙ wrong));
  }

  pub ended_none : (answer : Bool) → AreFinished scale (heard_of symbols) (acquired scale symbols) old.count
      (fields_in (acquired scale symbols)) old.numbers.done answer new.rounds new.field → answer ≡ false
      → new.gives ≡ false → new.held ≡ old.held → new.numbers ≡ old.numbers → HasEndedOne scale symbols old new
  ended_none answer ended is gives held numbers = record {
    given = gave_none scale (fields_in (acquired scale symbols)) symbols old new (fields_in (acquired scale symbols)) h
        gives count numbers
        (subst (λ n. AreMade scale (heard_of symbols) (acquired scale symbols) old.count
        (fields_in (acquired scale symbols)) n new.rounds) none
        (subst (λ b. AreMade scale (heard_of symbols) (acquired scale symbols) old.count
        (fields_in (acquired scale symbols)) (old.numbers.done + cond b 1 0) new.rounds) is ended.made))
        (ap (λ n. n + old.numbers.done) held ∙ h.all);
    all = λ _. ap (λ x. x.done) numbers ∙ ended.all is;
  }
    where
      none : old.numbers.done + 0 ≡ old.numbers.done
      none = omega arith

  pub held_none : new.gives ≡ false → old.held ≡ 0 → new.held ≡ old.held → new.numbers ≡ old.numbers
      → new.rounds ≡ old.rounds → HasEndedOne scale symbols old new
  held_none gives empty held numbers rounds = record {
    given = gave_none scale (fields_in (acquired scale symbols)) symbols old new (fields_in (acquired scale symbols)) h
        gives count numbers
        (subst (AreMade scale (heard_of symbols) (acquired scale symbols) old.count
        (fields_in (acquired scale symbols)) old.numbers.done) (sym rounds) h.made)
        (ap (λ n. n + old.numbers.done) held ∙ h.all);
    all = λ _. ap (λ x. x.done) numbers ∙ zero_more ∙ ap (λ n. n + old.numbers.done) (sym empty) ∙ h.all;
  }
    where
      zero_more : old.numbers.done ≡ 0 + old.numbers.done
      zero_more = omega arith

-- ---- what was given

-- the segments of the fields that had all rounds, after one more at most
pub given_next : (scale t : ℕ) (symbols : List ℤ) (old new : Passes) → HasGiven scale symbols t old new
    → take (313 * new.numbers.done) (refined scale symbols old.count)
    ≡ take (313 * old.numbers.done) (refined scale symbols old.count) ++ given_of new
given_next scale t symbols old new h = by_answer new.gives refl
  where
    segments : List (List ℤ)
    segments = refined scale symbols old.count

    by_answer : (b : Bool) → new.gives ≡ b
        → take (313 * new.numbers.done) segments ≡ take (313 * old.numbers.done) segments ++ given_of new
    by_answer true e = ap (λ n. take n segments) (omega (arith, h.done ∙ ap (λ b. old.numbers.done + cond b 1 0) e))
        ∙ take-add (313 * old.numbers.done) 313 segments ∙ ap (λ xs. take (313 * old.numbers.done) segments ++ xs)
        (sym (h.given_are e) ∙ ap (λ b. cond b (decided_rows new.field) []) (sym e))
    by_answer false e = grind (arith, append-nil)

pub given_few : (p : Passes) → length (given_of p) ≤ 313
given_few p = grind (arith, length-take)

pub given_none : (p : Passes) → p.gives ≡ false → given_of p ≡ []
given_none p e = ap (λ b. cond b (decided_rows p.field) []) e

-- each field that is given has a segment at least
pub given_some : (scale t : ℕ) (symbols : List ℤ) (old new : Passes) → HasGiven scale symbols t old new
    → t ≡ fields_in (acquired scale symbols) → new.gives ≡ true → 0 < length (given_of new)
given_some scale t symbols old new h all gives = grind (arith, length-take, length-drop, length-refined)
