-- A field passes through rounds, one behind the other: how they begin, how many of them hold a field, and what they
-- made of a run.
use Rattle.std.proofs.Common.{◌≡◌, ℕ, ℤ, suc, ◌+◌, ◌-◌, ◌<◌, ◌≤◌, nat_le, Bool, true, false, cond, List, [], ◌∷◌}
use Rattle.std.proofs.Common.{length, refl, sym, ap, ◌∙◌, arith, ◌*◌, subst, ◌++◌}
use Rattle.std.proofs.lemmas.Bool.{cases_lt, cond-false, cond-true, le-leb, lt-leb, true≢false}
use Rattle.dtx_receiver.specs.Bytes.{bytes_in}
use Rattle.dtx_rounds.specs.RunField.{AreSegments, Holds, IsInRun, IsRounded}
use Rattle.dtx_rounds.specs.Known.{known_word}
use Rattle.dtx_rounds.specs.RunRounds.{AreFinished, AreMade, AreTaken, AreAt, given_by, given_count, on_count, IsAt}
use Rattle.dtx_rounds.specs.RunRounds.{IsEnded, IsEndedFirst, IsGiven, IsPassed, IsRun, AreOff}
use Rattle.dtx_rounds.specs.Rounds.{rounded, rounds_of}
use Rattle.dtx_rounds.specs.declared.field.Field.{Field}
use Rattle.dtx_rounds.specs.declared.round.Round.{Round}
use Rattle.dtx_rounds.specs.declared.rounds.Rounds.{Rounds}
use Rattle.dtx_rounds.proofs.BegunFields.{no_word}
use Rattle.dtx_rounds.proofs.RefinedLemmas.{known_stays, length-rounded, rounds_more}
use Rattle.dtx_rounds.proofs.RoundLevels.{after_long}

pub few_on : (rounds : List Round) → on_count rounds ≤ length rounds
few_on [] = omega arith
few_on (round ∷ rounds) = by_round round.on (few_on rounds)
  where
    by_round : (b : Bool) → on_count rounds ≤ length rounds → cond b 1 0 + on_count rounds ≤ suc (length rounds)
    by_round true l = omega (arith, l)
    by_round false l = omega (arith, l)

-- of the fields that came to rounds, each was given or is held
pub given_and_on : (scale : ℕ) (heard given : List (List ℤ)) (before : List ℕ) (t : ℕ) (rounds : List Round)
    → AreAt scale heard given before t rounds → given_count t rounds + on_count rounds ≡ t
given_and_on scale heard given before t [] at = omega arith
given_and_on scale heard given before t (round ∷ rounds) at = by_round round.on (λ e. (at.0.on e).0)
    (given_and_on scale heard (rounded scale heard given) (bytes_in given) (given_by round t) rounds at.1)
  where
    by_round : (b : Bool) → (b ≡ true → 0 < t)
        → given_count (given_by round t) rounds + on_count rounds ≡ cond b (t - 1) t
        → given_count (given_by round t) rounds + (cond b 1 0 + on_count rounds) ≡ t
    by_round true some e = (let l = some refl in omega (arith, l, e))
    by_round false some e = omega (arith, e)

-- ---- whether each of them holds one

-- two comparisons that come out alike
pub same_test : (a b c d : ℕ) → (a ≤ b → c ≤ d) → (b < a → d < c) → nat_le a b ≡ nat_le c d
same_test a b c d h k = grind (arith, cases_lt, lt-leb, le-leb)

pub none_full : (rounds : List Round) → length rounds ≡ 0 → true ≡ nat_le (length rounds) (on_count rounds)
none_full rounds e = sym (le-leb (length rounds) (on_count rounds) (omega (arith, e)))

pub full_on : (round : Round) (rest : List Round) → round.on ≡ true
    → nat_le (length rest) (on_count rest) ≡ nat_le (suc (length rest)) (on_count (round ∷ rest))
full_on round rest e = grind (arith, cond-true, same_test)

pub full_off : (round : Round) (rest : List Round) → round.on ≡ false
    → false ≡ nat_le (suc (length rest)) (on_count (round ∷ rest))
full_off round rest e = grind (arith, cond-false, lt-leb, few_on)

-- ---- the run of the next round

pub next_run : (scale : ℕ) (heard given : List (List ℤ)) (before : List ℕ) → 0 < scale → scale ≤ 18
    → IsRun heard given before → IsRun heard (rounded scale heard given) (bytes_in given)
unfolding rounded
next_run scale heard given before some most h = grind (arith, after_long, length-rounded, known_stays)

rounds_next : (scale n : ℕ) (heard given : List (List ℤ))
    → rounds_of scale heard (rounded scale heard given) n ≡ rounds_of scale heard given (suc n)
unfolding rounds_of
rounds_next scale n heard given =
    let next : 1 + n ≡ suc n = omega arith in
    sym (rounds_more scale 1 n heard given) ∙ ap (rounds_of scale heard given) next

-- Where no round stands behind the first, the field that it gave is passed on as it is.
pub first_given : (scale t : ℕ) (heard given : List (List ℤ)) (rest : List Round) (taken field : Field)
    → (length rest ≡ 0 → field ≡ taken) → IsRounded scale heard given t taken → length rest ≡ 0
    → IsRounded scale heard given (given_count t rest) field
first_given scale t heard given [] taken field same h e = subst (IsRounded scale heard given t) (sym (same refl)) h
first_given scale t heard given (round ∷ rest) taken field same h e = absurd (omega (arith, e))

given_next : (scale f : ℕ) (heard given : List (List ℤ)) (before : List ℕ) (rest : List Round) (field : Field)
    → (length rest ≡ 0 → IsRounded scale heard given f field)
    → IsGiven scale heard (rounded scale heard given) (bytes_in given) (length rest) f field
    → IsGiven scale heard given before (suc (length rest)) f field
unfolding rounds_of
given_next scale f heard given before [] field first h = first refl
given_next scale f heard given before (round ∷ rest) field first h = grind (arith, rounds_next)

-- ---- one round more

pub given_on : (round : Round) (t : ℕ) → round.on ≡ true → given_by round t ≡ t - 1
given_on round t e = cond-true round.on (t - 1) t e

pub given_off : (round : Round) (t : ℕ) → round.on ≡ false → given_by round t ≡ t
given_off round t e = cond-false round.on (t - 1) t e

-- a round that holds a field gives it
pub passed_on : (scale : ℕ) (heard given : List (List ℤ)) (before : List ℕ) (t : ℕ) (round new : Round)
    (rest after : List Round) (answer : Bool) (taken field : Field) → round.on ≡ true → 0 < t → new.on ≡ true
    → Holds scale heard given before (t - 1 + 1) new.held
    → (length rest ≡ 0 → field ≡ taken) → IsRounded scale heard given (t - 1) taken
    → IsPassed scale heard (rounded scale heard given) (bytes_in given) (t - 1) rest after answer field
    → IsPassed scale heard given before t (round ∷ rest) (new ∷ after) answer field
passed_on scale heard given before t round new rest after answer taken field on some new_on held stays r p = record {
  at = (grind (arith, same, true≢false, now));
  count = ap (λ n. given_count n after) now ∙ p.count
      ∙ ap (λ n. given_count n rest + cond answer 1 0) (sym (given_on round t on));
  given_is = λ e. subst (λ f. IsGiven scale heard given before (suc (length rest)) f field)
      (ap (λ n. given_count n rest) (sym (given_on round t on)))
      (given_next scale (given_count (t - 1) rest) heard given before rest field
      (first_given scale (t - 1) heard given rest taken field stays r) (p.given_is e));
}
  where
    same : t - 1 + 1 ≡ t + 1 - 1
    same = omega (arith, some)

    now : given_by new (t + 1) ≡ t - 1 + 1
    now = given_on new (t + 1) new_on ∙ sym same

-- a round that holds none keeps the first
pub passed_off : (scale : ℕ) (heard given : List (List ℤ)) (before : List ℕ) (t : ℕ) (round new : Round)
    (rest : List Round) (field : Field) → round.on ≡ false → t ≡ 0 → new.on ≡ true
    → Holds scale heard given before 0 new.held
    → AreAt scale heard (rounded scale heard given) (bytes_in given) (given_by round t) rest
    → IsPassed scale heard given before t (round ∷ rest) (new ∷ rest) false field
passed_off scale heard given before t round new rest field off none new_on held h =
    grind (arith, true≢false, given_off, given_on)

pub passed_all : (scale : ℕ) (heard given : List (List ℤ)) (before : List ℕ) (t : ℕ) (rounds : List Round)
    (field : Field) → length rounds ≡ 0 → IsInRun scale heard given (known_word before) t field
    → IsPassed scale heard given before t rounds rounds true field
passed_all scale heard given before t [] field e h = grind arith
passed_all scale heard given before t (round ∷ rounds) field e h = absurd (omega arith)

-- ---- the end

-- a round that holds the last field is ended, and the field passes through the others
pub first_on : (scale : ℕ) (heard given : List (List ℤ)) (before : List ℕ) (t n : ℕ) (old new : List Round)
    (answer : Bool) (field : Field) → n + 1 ≡ t → length new ≡ length old
    → IsPassed scale heard given before n old new answer field
    → IsEndedFirst scale heard given before t n old new answer field
first_on scale heard given before t n old new answer field e long p = grind arith

-- a round that holds none is passed over
pub first_off : (scale : ℕ) (heard given : List (List ℤ)) (before : List ℕ) (t n : ℕ) (rest : List Round)
    (field : Field) → n ≡ t → AreAt scale heard given before n rest
    → IsEndedFirst scale heard given before t n rest rest false field
first_off scale heard given before t n rest field e h = grind (arith, true≢false)

past_end : (scale : ℕ) (heard given : List (List ℤ)) (before : List ℕ) (t : ℕ) (new : Round) → new.on ≡ false
    → length given ≤ 313 * t → IsAt scale heard given before t new
past_end scale heard given before t new off l = grind (arith, true≢false)

-- a field came out of the rounds behind the first
pub ended_given : (scale : ℕ) (heard given : List (List ℤ)) (before : List ℕ) (t : ℕ) (round new : Round)
    (rest after : List Round) (field : Field) → new.on ≡ false → length given ≤ 313 * t
    → (length rest ≡ 0 → IsRounded scale heard given (given_count (given_by round t) rest) field)
    → IsEndedFirst scale heard (rounded scale heard given) (bytes_in given) t (given_by round t) rest after true field
    → IsEnded scale heard given before t (round ∷ rest) (new ∷ after) true field
ended_given scale heard given before t round new rest after field off l first p = record {
  at = (grind (arith, past_end, given_off));
  count = ap (λ n. given_count n after) (given_off new t off) ∙ p.count;
  given_is = λ e. given_next scale (given_count (given_by round t) rest) heard given before rest field first
      (p.given_is e);
  some = λ e. omega arith;
  all = λ e. absurd (true≢false e);
}

-- none came, so the next one is ended
pub ended_next : (scale : ℕ) (heard given : List (List ℤ)) (before : List ℕ) (t : ℕ) (round new : Round)
    (rest between after : List Round) (answer : Bool) (first field : Field) → new.on ≡ false → length given ≤ 313 * t
    → IsEndedFirst scale heard (rounded scale heard given) (bytes_in given) t (given_by round t) rest between false
    first → IsEnded scale heard (rounded scale heard given) (bytes_in given) t between after answer field
    → IsEnded scale heard given before t (round ∷ rest) (new ∷ after) answer field
ended_next scale heard given before t round new rest between after answer first field off l p q = record {
  at = (grind (arith, past_end, given_off));
  count = ap (λ n. given_count n after) (given_off new t off) ∙ q.count ∙ ap (λ n. n + cond answer 1 0) same;
  given_is = λ e. given_next scale (given_count (given_by round t) rest) heard given before rest field
      (λ none. absurd (omega (arith, none, p.long, q.some e)))
      (subst (λ n. IsGiven scale heard (rounded scale heard given) (bytes_in given) n
      (given_count (given_by round t) rest) field) p.long
      (subst (λ n. IsGiven scale heard (rounded scale heard given) (bytes_in given) (length between) n field) same
      (q.given_is e)));
  some = λ e. omega arith;
  all = λ e. ap (λ n. given_count n after) (given_off new t off) ∙ q.all e;
}
  where
    same : given_count t between ≡ given_count (given_by round t) rest
    same =
        let none : given_count (given_by round t) rest + 0 ≡ given_count (given_by round t) rest = omega arith in
        p.count ∙ none

pub ended_none : (scale : ℕ) (heard given : List (List ℤ)) (before : List ℕ) (t : ℕ) (rounds : List Round)
    (field : Field) → length rounds ≡ 0 → IsEnded scale heard given before t rounds rounds false field
ended_none scale heard given before t [] field e = grind (arith, true≢false)
ended_none scale heard given before t (round ∷ rounds) field e = absurd (omega arith)

-- ---- the beginning

pub off_more : (rounds : List Round) (round : Round) → AreOff rounds → round.on ≡ false
    → AreOff (rounds ++ (round ∷ []))
off_more [] round h e = (e, tt)
off_more (first ∷ rounds) round h e = (h.0, off_more rounds round h.1 e)

pub at_first : (scale : ℕ) (heard given : List (List ℤ)) (before : List ℕ) (rounds : List Round) → AreOff rounds
    → AreAt scale heard given before 0 rounds
at_first scale heard given before [] h = tt
at_first scale heard given before (round ∷ rounds) h = (
  (grind (arith, true≢false)),
  subst (λ n. AreAt scale heard (rounded scale heard given) (bytes_in given) n rounds) (sym (given_off round 0 h.0))
      (at_first scale heard (rounded scale heard given) (bytes_in given) rounds h.1),
)

pub none_given : (rounds : List Round) → AreOff rounds → given_count 0 rounds ≡ 0
none_given [] h = refl
none_given (round ∷ rounds) h = ap (λ n. given_count n rounds) (given_off round 0 h.0) ∙ none_given rounds h.1

pub made_first : (scale count : ℕ) (heard given : List (List ℤ)) (rounds : Rounds) → rounds.means.decoder ≡ scale
    → AreOff rounds.rounds.items → length rounds.rounds.items ≡ count → AreMade scale heard given count 0 0 rounds
made_first scale count heard given rounds e off long = grind (arith, at_first, none_given)

-- ---- how many fields were given

by_few : (t : ℕ) (round : Round) → given_by round t ≤ t
by_few t round = grind arith

few_given : (t : ℕ) (rounds : List Round) → given_count t rounds ≤ t
few_given t [] = omega arith
few_given t (round ∷ rounds) = omega (arith, few_given (given_by round t) rounds, by_few t round)

-- each round holds one field at most
held_few : (scale count t f : ℕ) (heard given : List (List ℤ)) (rounds : List Round) → length rounds ≡ count
    → AreAt scale heard given [] t rounds → given_count t rounds ≡ f → t ≤ f + count
held_few scale count t f heard given rounds long at e = grind (arith, given_and_on, few_on)

-- ---- a run of which nothing is known before

pub run_of : (heard given : List (List ℤ)) → AreSegments given → length heard ≡ length given → IsRun heard given []
run_of heard given long same = record { long = long; same = same; stays = λ k code e. absurd (no_word k code e) }

-- ---- a field more

pub taken : (scale count t f : ℕ) (heard given : List (List ℤ)) (old new : Rounds) (answer : Bool) (field : Field)
    → AreMade scale heard given count t f old → new.means.decoder ≡ old.means.decoder
    → length new.rounds.items ≡ length old.rounds.items
    → answer ≡ nat_le (length old.rounds.items) (on_count old.rounds.items)
    → IsPassed scale heard given [] t old.rounds.items new.rounds.items answer field
    → AreTaken scale heard given count t f answer new field
taken scale count t f heard given old new answer field m e long full p =
    grind (arith, few_given, held_few, given_and_on, same_test)

pub finished : (scale count t f : ℕ) (heard given : List (List ℤ)) (old new : Rounds) (answer : Bool) (field : Field)
    → AreMade scale heard given count t f old → new.means.decoder ≡ old.means.decoder
    → length new.rounds.items ≡ length old.rounds.items
    → IsEnded scale heard given [] t old.rounds.items new.rounds.items answer field
    → AreFinished scale heard given count t f answer new field
finished scale count t f heard given old new answer field m e long p = grind (arith, few_given, held_few)
