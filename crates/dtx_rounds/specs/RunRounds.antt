-- Rounds one behind the other, over the fields of a run. Each holds a field of its own run: that of the first round is
-- given, and that of each further one is what the round before it gives.
use Rattle.std.specs.Prelude.{ℕ, ℤ, ◌≡◌, ◌+◌, ◌-◌, ◌*◌, ◌/◌, ◌<◌, ◌≤◌, ◌⊎◌, ⊤, Bool, true, false, if◌then◌else◌, List}
use Rattle.std.specs.Prelude.{[], ◌∷◌, length, nat_le}
use Rattle.std.proofs.Common.{zero, suc}
use Rattle.dtx_receiver.specs.Bytes.{bytes_in}
use Rattle.dtx_rounds.specs.RunField.{AreSegments, Holds, IsInRun, IsRounded, StayKnown}
use Rattle.dtx_rounds.specs.Known.{known_word}
use Rattle.dtx_rounds.specs.Rounds.{fields_in, rounded, rounds_of}
use Rattle.dtx_rounds.specs.declared.field.Field.{Field}
use Rattle.dtx_rounds.specs.declared.round.Round.{Round}
use Rattle.dtx_rounds.specs.declared.rounds.Rounds.{Rounds}

-- A run that rounds are made over, and its bytes before the last round.
pub record IsRun (heard given : List (List ℤ)) (before : List ℕ) : Type 0 where
  pub long : AreSegments given
  pub same : length heard ≡ length given
  pub stays : StayKnown before (bytes_in given)

-- ---- one round

-- A round that took t fields of a run holds the last of them, or none before the first and after the last one.
pub record IsAt (scale : ℕ) (heard given : List (List ℤ)) (before : List ℕ) (t : ℕ) (round : Round) : Type 0 where
  pub on : round.on ≡ true → (0 < t) × Holds scale heard given before (t - 1) round.held
  pub off : round.on ≡ false → (t ≡ 0) ⊎ (length given ≤ 313 * t)

-- how many fields it gave
abbrev pub given_by : Round → ℕ → ℕ
given_by round t = if round.on then t - 1 else t

-- ---- all of them

-- Each holds none.
abbrev pub AreOff : List Round → Type 0
AreOff [] = ⊤
AreOff (round ∷ rounds) = (round.on ≡ false) × AreOff rounds

-- The first round took t fields.
abbrev pub AreAt : ℕ → List (List ℤ) → List (List ℤ) → List ℕ → ℕ → List Round → Type 0
AreAt scale heard given before t [] = ⊤
AreAt scale heard given before t (round ∷ rounds) =
    IsAt scale heard given before t round
    × AreAt scale heard (rounded scale heard given) (bytes_in given) (given_by round t) rounds

-- how many fields had all rounds
abbrev pub given_count : ℕ → List Round → ℕ
given_count t [] = t
given_count t (round ∷ rounds) = given_count (given_by round t) rounds

-- how many rounds hold a field
abbrev pub on_count : List Round → ℕ
on_count [] = 0
on_count (round ∷ rounds) = (if round.on then 1 else 0) + on_count rounds

-- It is field f of the run after so many rounds, with what the last of them cost and how many symbols it moved.
abbrev pub IsGiven : ℕ → List (List ℤ) → List (List ℤ) → List ℕ → ℕ → ℕ → Field → Type 0
IsGiven scale heard given before zero f field = IsInRun scale heard given (known_word before) f field
IsGiven scale heard given before (suc r) f field = IsRounded scale heard (rounds_of scale heard given r) f field

-- One field more came to the rounds, and where the answer is true a field had all of them.
pub record IsPassed (scale : ℕ) (heard given : List (List ℤ)) (before : List ℕ) (t : ℕ) (old new : List Round)
    (answer : Bool) (field : Field) : Type 0 where
  pub at : AreAt scale heard given before (t + 1) new
  pub count : given_count (t + 1) new ≡ given_count t old + (if answer then 1 else 0)
  pub given_is : answer ≡ true → IsGiven scale heard given before (length old) (given_count t old) field

-- No field comes any more. Where the answer is true a field had all rounds, and else all fields had them before.
pub record IsEnded (scale : ℕ) (heard given : List (List ℤ)) (before : List ℕ) (t : ℕ) (old new : List Round)
    (answer : Bool) (field : Field) : Type 0 where
  pub at : AreAt scale heard given before t new
  pub count : given_count t new ≡ given_count t old + (if answer then 1 else 0)
  pub given_is : answer ≡ true → IsGiven scale heard given before (length old) (given_count t old) field
  pub some : answer ≡ true → 0 < length old
  pub all : answer ≡ false → given_count t new ≡ t

-- The same of the rounds behind one that was ended. Before, n fields had come to them, and now t.
pub record IsEndedFirst (scale : ℕ) (heard given : List (List ℤ)) (before : List ℕ) (t n : ℕ) (old new : List Round)
    (answer : Bool) (field : Field) : Type 0 where
  pub at : AreAt scale heard given before t new
  pub long : length new ≡ length old
  pub count : given_count t new ≡ given_count n old + (if answer then 1 else 0)
  pub given_is : answer ≡ true → IsGiven scale heard given before (length old) (given_count n old) field

-- A field comes to rounds, whichever field of a run it is.
abbrev pub PassesOn : ℕ → (old : List Round) (field : Field) (new : List Round) → Bool → Field → Type 0
PassesOn scale old field new answer made =
    (heard given : List (List ℤ)) (before : List ℕ) (t : ℕ) → IsRun heard given before → 313 * t < length given
    → AreAt scale heard given before t old → IsInRun scale heard given (known_word before) t field
    → IsPassed scale heard given before t old new answer made

-- No field of a run comes to rounds any more.
abbrev pub EndsOn : ℕ → (old new : List Round) → Bool → Field → Type 0
EndsOn scale old new answer made =
    (heard given : List (List ℤ)) (before : List ℕ) (t : ℕ) → IsRun heard given before → t ≡ fields_in given
    → AreAt scale heard given before t old → IsEnded scale heard given before t old new answer made

-- So many rounds at a scale took the first t fields of a run, of which nothing was known, and gave the first f of them.
-- Each round holds one field at most.
pub record AreMade (scale : ℕ) (heard given : List (List ℤ)) (count t f : ℕ) (rounds : Rounds) : Type 0 where
  pub scale_is : rounds.means.decoder ≡ scale
  pub long : length rounds.rounds.items ≡ count
  pub at : AreAt scale heard given [] t rounds.rounds.items
  pub given_are : given_count t rounds.rounds.items ≡ f
  pub few : f ≤ t
  pub held : t ≤ f + count

-- The next field was taken. Where each round held a field, the answer is true, and field f was given as it is after all
-- rounds over the run.
pub record AreTaken (scale : ℕ) (heard given : List (List ℤ)) (count t f : ℕ) (answer : Bool) (new : Rounds)
    (field : Field) : Type 0 where
  pub made : AreMade scale heard given count (t + 1) (f + (if answer then 1 else 0)) new
  pub answer_is : answer ≡ nat_le (f + count) t
  pub given_is : answer ≡ true → IsGiven scale heard given [] count f field

-- All fields were taken. Where the answer is true, field f was given as it is after all rounds over the run, and else
-- all had been given.
pub record AreFinished (scale : ℕ) (heard given : List (List ℤ)) (count t f : ℕ) (answer : Bool) (new : Rounds)
    (field : Field) : Type 0 where
  pub made : AreMade scale heard given count t (f + (if answer then 1 else 0)) new
  pub given_is : answer ≡ true → IsGiven scale heard given [] count f field
  pub all : answer ≡ false → f ≡ t
