-- A refiner at the end of the symbols.
use Rattle.std.proofs.Common.{◌≡◌, ℕ, ℤ, ◌+◌, ◌-◌, ◌*◌, ◌/◌, ◌<◌, ◌≤◌, Bool, true, false, List, [], ◌++◌, length, map}
use Rattle.std.proofs.Common.{sum, take, sym, ap, ◌∙◌, subst, arith, length-append}
use Rattle.std.specs.List.{range_with_len}
use Rattle.std.proofs.lemmas.List.{append-nil, append_assoc, append_cancel_left, take_all}
use Rattle.dtx_receiver.specs.Bytes.{bytes_in}
use Rattle.dtx_acquire.specs.Acquired.{acquired, acquired_rest, acquired_runs, acquired_so_far, heard_rest}
use Rattle.dtx_acquire.specs.Acquired.{heard_so_far}
use Rattle.dtx_acquire.specs.Acquirer.{Holding}
use Rattle.dtx_acquire.proofs.AcquiredLemmas.{all_is_acquired, all_is_heard, length-heard_so_far}
use Rattle.dtx_rounds.specs.FieldRound.{words_known}
use Rattle.dtx_rounds.specs.RunField.{rows_of, IsRounded}
use Rattle.dtx_rounds.specs.Known.{known_count}
use Rattle.dtx_rounds.specs.Rounds.{fields_in, heard_of, refined, refined_rest, refined_so_far, round_cost, round_moved}
use Rattle.dtx_rounds.specs.Rounds.{settled_count}
use Rattle.dtx_rounds.specs.declared.field.Field.{Field}
use Rattle.dtx_rounds.proofs.SoFarLemmas.{all_is_refined, length-refined}
use Rattle.dtx_refine.specs.Refiner.{ArePassed, HasEndedOne, HasTaken, IsField, given_of, HasEnded, HasStepped, IsOver}
use Rattle.dtx_refine.specs.Refiner.{Refining, StandsFor, refining}
use Rattle.dtx_refine.specs.declared.passes.Passes.{Passes}
use Rattle.dtx_refine.proofs.Steps.{field_last, given_few, given_next, given_none, given_some}
use Rattle.dtx_refine.proofs.Takes.{waiting_then}

-- ---- the last field

field_ended : (acquirer : Holding) (symbols : List ℤ) (t : ℕ)
    → acquirer.given ≡ acquired_rest acquirer.scale symbols → acquirer.heard ≡ heard_rest symbols
    → length (acquired_so_far acquirer.scale symbols) ≡ 313 * t → length acquirer.given ≤ 313
    → length acquirer.heard ≡ length acquirer.given → 0 < length acquirer.given → IsField acquirer symbols t
unfolding heard_of
field_ended acquirer symbols t given heard long few same l =
    let segments : acquired acquirer.scale symbols ≡ acquired_so_far acquirer.scale symbols ++ acquirer.given =
    grind (arith, all_is_acquired) in
    let received : heard_of symbols ≡ heard_so_far symbols ++ acquirer.heard =
    sym (all_is_heard symbols) ∙ ap (λ xs. heard_so_far symbols ++ xs) (sym heard) in
    record {
      within = omega (
        arith,
        long,
        l,
        ap length segments,
        length-append (acquired_so_far acquirer.scale symbols) acquirer.given,
      );
      given_are = sym (ap (λ xs. rows_of xs t) segments
          ∙ field_last t (acquired_so_far acquirer.scale symbols) acquirer.given long few);
      heard_are = sym (ap (λ xs. rows_of xs t) received ∙ field_last t (heard_so_far symbols) acquirer.heard
          (length-heard_so_far acquirer.scale symbols ∙ long) (omega (arith, few, same)));
    }

-- ---- the end of the symbols

-- An acquirer ended its symbols, and rounds took what it gave then.
pub record HasEndedSymbols (acquirer now_acquirer : Holding) (passes now_passes : Passes) (symbols : List ℤ)
    : Type 0 where
  pub given : now_acquirer.given ≡ acquired_rest acquirer.scale symbols
  pub heard : now_acquirer.heard ≡ heard_rest symbols
  pub few : length now_acquirer.given ≤ 313
  pub same : length now_acquirer.heard ≡ length now_acquirer.given
  pub taken : (s : List ℤ) (t : ℕ) → ArePassed now_acquirer.scale s t passes
      → (0 < length now_acquirer.given → IsField now_acquirer s t)
      → HasTaken now_acquirer.scale s t (fields_in now_acquirer.given) passes now_passes
  pub held : now_passes.held ≤ passes.held + 1
  pub scale_is : now_acquirer.scale ≡ acquirer.scale
  pub count_is : now_passes.count ≡ passes.count
  pub runs_are : now_acquirer.runs ≡ acquired_runs symbols
  pub segments_are : now_acquirer.segments ≡ length (acquired acquirer.scale symbols)

module _ (a b : Holding) (p q : Passes) (ended : Bool) (symbols : List ℤ)
    (was : StandsFor (refining a p ended) symbols) (h : HasEndedSymbols a b p q symbols) where
  abbrev fields : ℕ
  fields = fields_in b.given

  long_before : length (acquired_so_far b.scale symbols) ≡ 313 * was.taken
  long_before = ap (λ s. length (acquired_so_far s symbols)) h.scale_is ∙ was.long

  given_rest : b.given ≡ acquired_rest b.scale symbols
  given_rest = h.given ∙ ap (λ s. acquired_rest s symbols) (sym h.scale_is)

  fields_now : was.taken + fields ≡ fields_in (acquired b.scale symbols)
  fields_now =
      omega (
        arith,
        long_before,
        ap length (all_is_acquired b.scale symbols),
        length-append (acquired_so_far b.scale symbols) (acquired_rest b.scale symbols),
        ap length given_rest,
      )

  taken_now : HasTaken b.scale symbols was.taken fields p q
  taken_now =
      h.taken symbols was.taken
      (subst (λ s. ArePassed s symbols was.taken p) (sym h.scale_is)
      (subst (λ s. ArePassed a.scale s was.taken p) (append-nil symbols) (was.passed [])))
      (λ l. field_ended b symbols was.taken given_rest h.heard long_before h.few h.same l)

  pub ended_now : HasEnded (refining b q true) symbols (given_of q)
  unfolding refined_so_far settled_count
  ended_now = record {
    passed = subst (λ t. ArePassed b.scale symbols t q) fields_now taken_now.given.passed;
    given_are = ap (λ n. take n (refined b.scale symbols q.count) ++ given_of q) count_before
        ∙ ap (λ n. take (313 * p.numbers.done) (refined b.scale symbols n) ++ given_of q) h.count_is
        ∙ sym (given_next b.scale (was.taken + fields) symbols p q taken_now.given)
        ∙ ap (λ n. take (313 * q.numbers.done) (refined b.scale symbols n)) (sym h.count_is);
    runs_are = h.runs_are;
    segments_are = h.segments_are ∙ ap (λ s. length (acquired s symbols)) (sym h.scale_is);
    few = omega (arith, waiting_then ended was.going, was.few, h.held, h.count_is);
  }
    where
      count_before : length (acquired_so_far b.scale symbols) - 313 * q.count ≡ 313 * p.numbers.done
      count_before = omega (arith, long_before, was.done, h.count_is)

  pub some_now : q.gives ≡ true → 0 < length (given_of q)
  some_now = given_some b.scale (was.taken + fields) symbols p q taken_now.given fields_now

-- ---- a step behind the end

pub ended_next : (a : Holding) (p q : Passes) (ended : Bool) (symbols : List ℤ) (before : List (List ℤ))
    → HasEnded (refining a p ended) symbols before → HasEndedOne a.scale symbols p q → q.count ≡ p.count
    → q.held ≤ p.held → HasEnded (refining a q ended) symbols (before ++ given_of q)
ended_next a p q ended symbols before was one count held = grind (arith, append_assoc, given_next)

-- ---- all segments

-- the numbers of a round, by those of its fields
pub record AreSums (scale : ℕ) (heard given : List (List ℤ)) : Type 0 where
  pub known : (field : ℕ → Field) → ((f : ℕ) → f < fields_in given → IsRounded scale heard given f (field f))
      → sum (map (λ f. words_known (field f).words) (range_with_len 0 (fields_in given))) ≡ known_count (bytes_in given)
  pub cost : (field : ℕ → Field) → ((f : ℕ) → f < fields_in given → IsRounded scale heard given f (field f))
      → sum (map (λ f. (field f).cost) (range_with_len 0 (fields_in given))) ≡ round_cost scale heard given
  pub moved : (field : ℕ → Field) → ((f : ℕ) → f < fields_in given → IsRounded scale heard given f (field f))
      → sum (map (λ f. (field f).moved) (range_with_len 0 (fields_in given))) ≡ round_moved scale heard given

-- all fields had all rounds
pub over : (a : Holding) (p : Passes) (ended : Bool) (symbols : List ℤ)
    → p.numbers.done ≡ fields_in (acquired a.scale symbols)
    → ArePassed a.scale symbols (fields_in (acquired a.scale symbols)) p
    → AreSums a.scale (heard_of symbols) (refined a.scale symbols (p.count - 1)) → IsOver (refining a p ended) symbols
over a p ended symbols done h sums = record {
  done = done;
  known_are = h.counted.known_are
      ∙ ap (λ n. sum (map (λ f. words_known (h.counted.field f).words) (range_with_len 0 n))) all
      ∙ sums.known h.counted.field each;
  cost_is = h.counted.cost_is
      ∙ ap (λ n. sum (map (λ f. (h.counted.field f).cost) (range_with_len 0 n))) all
      ∙ sums.cost h.counted.field each;
  moved_are = h.counted.moved_are
      ∙ ap (λ n. sum (map (λ f. (h.counted.field f).moved) (range_with_len 0 n))) all
      ∙ sums.moved h.counted.field each;
}
  where
    last : List (List ℤ)
    last = refined a.scale symbols (p.count - 1)

    all : p.numbers.done ≡ fields_in last
    all = done ∙ ap (λ n. (n + 312) / 313) (sym (length-refined a.scale (p.count - 1) symbols))

    each : (f : ℕ) → f < fields_in last → IsRounded a.scale (heard_of symbols) last f (h.counted.field f)
    each f l = h.counted.rounded f (omega (arith, l, all))

-- what was given behind the end is all that it adds
pub rest_is : (refiner : Refining) (symbols : List ℤ) (before : List (List ℤ)) → HasEnded refiner symbols before
    → refiner.passes.numbers.done ≡ fields_in (acquired refiner.scale symbols)
    → before ≡ refined_rest refiner.scale symbols refiner.rounds
rest_is refiner symbols before h done = append_cancel_left (refined_so_far refiner.scale symbols refiner.rounds) before
    (refined_rest refiner.scale symbols refiner.rounds) (grind (arith, take_all, length-refined, all_is_refined))

-- ---- what a step does to the numbers

-- a field can be left where none was given
waits : (p : Passes) (before behind : ℕ) → 313 * p.held + behind ≤ before
    → (p.gives ≡ true → 313 * p.held + behind + 313 ≤ before) → 313 * p.held + behind + length (given_of p) ≤ before
waits p before behind l more = grind (arith, given_few, given_none)

pub stepped_end : (a b : Holding) (p q : Passes) (ended : Bool) → ended ≡ false → b.scale ≡ a.scale
    → b.symbols ≡ a.symbols → q.count ≡ p.count → q.held ≤ p.held + 1 → (q.gives ≡ true → q.held ≤ p.held)
    → HasStepped (refining a p ended) (refining b q true) q.gives
stepped_end a b p q ended going scale symbols count most still =
    grind (arith, given_few, given_none, waits, waiting_then, over)

pub stepped_next : (a : Holding) (p q : Passes) (ended : Bool) → ended ≡ true → q.count ≡ p.count
    → q.held ≤ p.held → (q.gives ≡ true → q.held < p.held)
    → HasStepped (refining a p ended) (refining a q ended) q.gives
stepped_next a p q ended over count most less = grind (arith, given_few, given_none, waits, over)

-- a step that gave nothing, and another
pub stepped_two : (old mid new : Refining) (answer : Bool) → HasStepped old mid false → HasStepped mid new answer
    → HasStepped old new answer
stepped_two old mid new answer h k = grind (arith, over)
