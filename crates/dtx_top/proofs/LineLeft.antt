-- The line that a call leaves behind, of how its printing ended.
use Rattle.std.specs.Prelude.{◌≡◌, ℕ, List, Option, Some, None, Result, Ok, Err, IfSome}
use Rattle.std.proofs.Common.{inl, inr, arith}
use Rattle.dtx_outside.specs.Shelf.{Files}
use Rattle.dtx_outside.specs.Counts.{Rose}
use Rattle.dtx_outside.specs.Sink.{IsCounted, SinkCounts}
use Rattle.dtx_outside.specs.declared.sink.SinkNo.{SinkNo}
use Rattle.dtx_outside.specs.declared.sink.SinkNo.TheVariants as sink
use Rattle.dtx_meaning.proofs.MeaningLemmas.{whole_of_carried}
use Rattle.dtx_meaning.specs.Meaning.{IsCarriedOut}
use Rattle.dtx_meaning.specs.declared.status.Outcome.{Outcome}
use Rattle.dtx_meaning.specs.declared.status.Status.{Status}
use Rattle.dtx_meaning.specs.declared.status.Status.TheVariants.{Done, WriteFault, Memory}
use Rattle.dtx_words.specs.Line.{finished, line_of}
use Rattle.dtx_words.specs.Names.{line_name}
use Rattle.dtx_words.specs.Printed.{IsPut}
use Rattle.dtx_words.specs.declared.rows.Command.{Command}
use Rattle.dtx_words.specs.declared.rows.Command.TheVariants.{Net}
use Rattle.dtx_top.specs.Ends.{IsOfCommand}
use Rattle.dtx_top.specs.Lines.{name_kept, names_told, HasLine, HasPartLine, IsSomeLine, IsSomeName, IsToldLine}
use Rattle.dtx_top.specs.NetAnswers.{ShowsNetwork}
use Rattle.dtx_top.specs.Jobs.{means_of}
use Rattle.dtx_top.proofs.ByWords.{known_numbers}

-- ---- how much of it

cut_line : (IsLine : Status → List ℕ → Type 0) (status : Status) (first last : SinkCounts) (old new : Option (List ℕ))
    → HasPartLine IsLine status old new → Rose first.faults last.faults
    → HasLine IsLine (finished status (Err sink.Failed)) first last old new
cut_line IsLine Done first last old new part rose = inr (rose, part)
cut_line IsLine WriteFault first last old new part rose = inl (inr (rose, part))
cut_line IsLine Memory first last old new part rose = inl (inr (rose, part))
cut_line IsLine status first last old new part rose = inr (rose, part)

-- the line of a status, after it was printed so
pub line_left : (IsLine : Status → List ℕ → Type 0) (status : Status) (text : List ℕ) (line : Result (Unit {0}) SinkNo)
    (first last : SinkCounts)
    (old new : Option (List ℕ)) → IsLine status text → IsPut text old line new → IsCounted first line last
    → HasLine IsLine (finished status line) first last old new
line_left IsLine status text (Ok u) first last old new is put counted = grind arith
line_left IsLine status text (Err sink.Memory) first last old new is put counted =
    inr (counted.risen.0, (status, (grind arith)))
line_left IsLine status text (Err sink.Failed) first last old new is put counted =
    cut_line IsLine status first last old new (grind arith) counted.risen.0

-- ---- which line

-- the line that is left, over files that are told
pub line_told : (command : Option Command) (words : List (List ℕ)) (told now : Option Files) (outcome : Outcome)
    (kept : List ℕ) (line : Result (Unit {0}) SinkNo) (first last : SinkCounts) (old new : Option (List ℕ))
    → IfSome told (λ held. IsCarriedOut (means_of command words held) (Some held) outcome now)
    → (command ≡ Some Net → IfSome told (λ held. name_kept command words outcome.status kept
    ≡ line_name outcome.status (names_told outcome.status command words held)))
    → IsPut (line_of command outcome (name_kept command words outcome.status kept)) old line new
    → IsCounted first line last
    → IfSome told (λ held. HasLine (IsToldLine command words held) (finished outcome.status line) first last old new)
line_told command words None now outcome kept line first last old new is named put counted = tt
line_told command words (Some held) now outcome kept line first last old new is named put counted =
    line_left (IsToldLine command words held) outcome.status _ line first last old new
    (grind (arith, whole_of_carried)) put counted

-- the line that is left, whatever the files are
pub line_untold : (command : Option Command) (words : List (List ℕ)) (outcome : Outcome) (kept : List ℕ)
    (line : Result (Unit {0}) SinkNo) (first last : SinkCounts) (old new : Option (List ℕ))
    → (command ≡ Some Net → IsSomeName command words outcome.status (name_kept command words outcome.status kept))
    → IsOfCommand command words outcome → (command ≡ Some Net → ShowsNetwork outcome.status outcome)
    → IsPut (line_of command outcome (name_kept command words outcome.status kept)) old line new
    → IsCounted first line last → HasLine (IsSomeLine command words) (finished outcome.status line) first last old new
line_untold command words outcome kept line first last old new named answer shown put counted =
    grind (arith, line_left, known_numbers)
