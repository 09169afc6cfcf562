-- A refiner and its passes as contracts see them, and which symbols they stand for.
use Rattle.std.specs.Prelude.{ℕ, ℤ, ◌≡◌, ◌+◌, ◌-◌, ◌*◌, ◌<◌, ◌≤◌, Bool, true, false, if◌then◌else◌, List, [], ◌++◌}
use Rattle.std.specs.Prelude.{length, take, map, sum}
use Rattle.dtx_acquire.specs.Acquired.{acquired, acquired_runs, acquired_so_far}
use Rattle.dtx_acquire.specs.Acquirer as acquirers
use Rattle.dtx_acquire.specs.Acquirer.{Holding}
use Rattle.dtx_receiver.specs.Bytes.{bytes_in}
use Rattle.dtx_rounds.specs.Known.{known_count}
use Rattle.dtx_rounds.specs.Rounds.{fields_in, heard_of, refined, refined_so_far, round_cost, round_moved}
use Rattle.dtx_refine.specs.declared.passes.Passes.{Passes}
use Rattle.std.specs.List.{range_with_len}
use Rattle.dtx_rounds.specs.Decided.{decided_rows}
use Rattle.dtx_rounds.specs.FieldRound.{words_known}
use Rattle.dtx_rounds.specs.RunField.{rows_of, IsRounded}
use Rattle.dtx_rounds.specs.RunRounds.{AreMade}
use Rattle.dtx_rounds.specs.declared.field.Field.{Field}
use Rattle.dtx_refine.specs.declared.numbers.Numbers.{Numbers}

-- the segments that were given last
abbrev pub given_of : Passes → List (List ℤ)
given_of passes = if passes.gives then decided_rows passes.field else []

-- The numbers are those of the first fields of a capture, which had so many rounds.
pub record AreCounted (scale rounds : ℕ) (symbols : List ℤ) (numbers : Numbers) : Type 0 where
  pub field : ℕ → Field
  pub rounded : (f : ℕ) → f < numbers.done
      → IsRounded scale (heard_of symbols) (refined scale symbols (rounds - 1)) f (field f)
  pub known_are : numbers.known ≡ sum (map (λ f. words_known (field f).words) (range_with_len 0 numbers.done))
  pub cost_is : numbers.cost ≡ sum (map (λ f. (field f).cost) (range_with_len 0 numbers.done))
  pub moved_are : numbers.moved ≡ sum (map (λ f. (field f).moved) (range_with_len 0 numbers.done))

-- The numbers of a field were added.
pub record IsAdded (field : Field) (old new : Numbers) : Type 0 where
  pub done_is : new.done ≡ old.done + 1
  pub known_is : new.known ≡ old.known + words_known field.words
  pub cost_is : new.cost ≡ old.cost + field.cost
  pub moved_is : new.moved ≡ old.moved + field.moved

-- The first t fields of a capture came to the rounds. They hold some, and the others had all rounds.
pub record ArePassed (scale : ℕ) (symbols : List ℤ) (t : ℕ) (passes : Passes) : Type 0 where
  pub some : 0 < scale
  pub most : scale ≤ 18
  pub made : AreMade scale (heard_of symbols) (acquired scale symbols) passes.count t passes.numbers.done passes.rounds
  pub all : passes.held + passes.numbers.done ≡ t
  pub counted : AreCounted scale passes.count symbols passes.numbers

-- The acquirer gave field t of a capture.
pub record IsField (acquirer : Holding) (symbols : List ℤ) (t : ℕ) : Type 0 where
  pub within : 313 * t < length (acquired acquirer.scale symbols)
  pub given_are : acquirer.given ≡ rows_of (acquired acquirer.scale symbols) t
  pub heard_are : acquirer.heard ≡ rows_of (heard_of symbols) t

-- At most one field more had all rounds, and was given. Now t fields have come to the rounds.
pub record HasGiven (scale : ℕ) (symbols : List ℤ) (t : ℕ) (old new : Passes) : Type 0 where
  pub passed : ArePassed scale symbols t new
  pub done : new.numbers.done ≡ old.numbers.done + (if new.gives then 1 else 0)
  pub given_are : new.gives ≡ true → decided_rows new.field ≡ rows_of (refined scale symbols old.count) old.numbers.done

-- So many fields more came to the rounds, of which each holds one before a field is given.
pub record HasTaken (scale : ℕ) (symbols : List ℤ) (t fields : ℕ) (old new : Passes) : Type 0 where
  pub given : HasGiven scale symbols (t + fields) old new
  pub waits : old.numbers.done ≡ t - old.count → new.numbers.done ≡ t + fields - old.count

-- All fields had come to the rounds. Where none is given, all had been.
pub record HasEndedOne (scale : ℕ) (symbols : List ℤ) (old new : Passes) : Type 0 where
  pub given : HasGiven scale symbols (fields_in (acquired scale symbols)) old new
  pub all : new.gives ≡ false → new.numbers.done ≡ fields_in (acquired scale symbols)

-- A refiner: its acquirer, its rounds and how many they are, the segments that it gave last, and whether the symbols
-- have ended. The counts are those of the acquirer, and those of all fields that had all rounds. `held` are the
-- symbols that the acquirer holds, and `waiting` how many segments can still come behind the end of the symbols.
pub record Refining : Type 0 where
  pub acquirer : Holding
  pub passes : Passes
  pub ended : Bool
  pub scale : ℕ
  pub rounds : ℕ
  pub given : List (List ℤ)
  pub held : List ℤ
  pub waiting : ℕ
  pub symbols : ℕ
  pub runs : ℕ
  pub segments : ℕ
  pub known : ℕ
  pub cost : ℕ
  pub moved : ℕ

-- a refiner by its parts
abbrev pub refining : Holding → Passes → Bool → Refining
refining holding passes ended = record {
  acquirer = holding;
  passes = passes;
  ended = ended;
  scale = holding.scale;
  rounds = passes.count;
  given = given_of passes;
  held = holding.held;
  waiting = 313 * passes.held + (if ended then 0 else 313);
  symbols = holding.symbols;
  runs = holding.runs;
  segments = holding.segments;
  known = passes.numbers.known;
  cost = passes.numbers.cost;
  moved = passes.numbers.moved;
}

-- The refiner was given these symbols. Whatever follows, the settled fields came to its rounds, and it has given all of
-- them but as many as there are rounds.
pub record StandsFor (refiner : Refining) (symbols : List ℤ) : Type 0 where
  pub acquirer : acquirers.StandsFor refiner.acquirer symbols
  pub going : refiner.ended ≡ false
  pub taken : ℕ
  pub long : length (acquired_so_far refiner.scale symbols) ≡ 313 * taken
  pub passed : (more : List ℤ) → ArePassed refiner.scale (symbols ++ more) taken refiner.passes
  pub done : refiner.passes.numbers.done ≡ taken - refiner.rounds
  pub few : refiner.waiting ≤ 313 * (refiner.rounds + 1)

-- These symbols have ended. All fields came to the rounds, and these segments were given since then.
pub record HasEnded (refiner : Refining) (symbols : List ℤ) (before : List (List ℤ)) : Type 0 where
  pub passed : ArePassed refiner.scale symbols (fields_in (acquired refiner.scale symbols)) refiner.passes
  pub given_are : refined_so_far refiner.scale symbols refiner.rounds ++ before
      ≡ take (313 * refiner.passes.numbers.done) (refined refiner.scale symbols refiner.rounds)
  pub runs_are : refiner.runs ≡ acquired_runs symbols
  pub segments_are : refiner.segments ≡ length (acquired refiner.scale symbols)
  pub few : refiner.waiting ≤ 313 * (refiner.rounds + 1)

-- The symbols end, or have ended, and these segments were given since then.
pub record IsEnding (refiner : Refining) (symbols : List ℤ) (before : List (List ℤ)) : Type 0 where
  pub going : refiner.ended ≡ false → StandsFor refiner symbols × (before ≡ [])
  pub over : refiner.ended ≡ true → HasEnded refiner symbols before

-- ---- a step at the end

-- All segments were given, and the numbers are those of all symbols.
pub record IsOver (refiner : Refining) (symbols : List ℤ) : Type 0 where
  pub done : refiner.passes.numbers.done ≡ fields_in (acquired refiner.scale symbols)
  pub known_are : refiner.known ≡ known_count (bytes_in (refined refiner.scale symbols (refiner.rounds - 1)))
  pub cost_is : refiner.cost
      ≡ round_cost refiner.scale (heard_of symbols) (refined refiner.scale symbols (refiner.rounds - 1))
  pub moved_are : refiner.moved
      ≡ round_moved refiner.scale (heard_of symbols) (refined refiner.scale symbols (refiner.rounds - 1))

-- What a step at the end leaves as it was, and what it gives. Where the answer is false it gave none. Where it is true,
-- fewer segments can still come.
pub record HasStepped (old new : Refining) (answer : Bool) : Type 0 where
  pub few : length new.given ≤ 313
  pub none : answer ≡ false → new.given ≡ []
  pub waiting : new.waiting + length new.given ≤ old.waiting
  pub fewer : answer ≡ true → new.waiting < old.waiting
  pub scale : new.scale ≡ old.scale
  pub rounds : new.rounds ≡ old.rounds
  pub symbols : new.symbols ≡ old.symbols
  pub over : new.ended ≡ true
