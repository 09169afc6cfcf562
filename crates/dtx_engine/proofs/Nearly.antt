-- Outputs that hold nearly all that was given for them.
use Rattle.std.proofs.Common.{◌≡◌, ℕ, ◌≤◌, List, [], ◌∷◌, length, refl, arith}
use Rattle.std.specs.Prelude.{Option, Err, IsErrOf}
use Rattle.std.specs.Option.{option_map}
use Rattle.std.proofs.lemmas.List.{append-nil}
use Rattle.dtx_outside.specs.Counts.{Counts, HasGone, Rose, blame_of_write}
use Rattle.dtx_outside.specs.Shelf.{Files, with_file, IsGathered, IsWritten}
use Rattle.dtx_outside.specs.declared.shelf.WriteNo.{WriteNo}
use Rattle.dtx_outside.specs.declared.shelf.WriteNo.TheVariants.{Failed, Memory}
use Rattle.dtx_engine.specs.Made.{Made, outputs_of}
use Rattle.dtx_engine.specs.Stages.{AreNearlyWritten, most_gathered}

-- where no write error was counted, it was memory that ran out
pub short_alone : (before after : Counts) (cause : WriteNo) → HasGone before after (blame_of_write (Err cause))
    → ¬ Rose before.write_faults after.write_faults → IsErrOf {T = Unit {0}} (Err cause) Memory
short_alone before after Failed gone calm = absurd (calm gone.risen)
short_alone before after Memory gone calm = refl

-- ---- one output

pub whole_one : (name : List ℕ) (start : Option Files) (made : Made) (now : Option Files)
    → IsWritten start name made.first now
    → AreNearlyWritten (most_gathered (name ∷ [])) (outputs_of (name ∷ []) made) start now
whole_one name start made now is = (made.first, [], append-nil made.first, omega arith, is)

-- ---- two outputs

-- the first was flushed
pub nearly_second : (one other : List ℕ) (start : Option Files) (made : Made) (s : List ℕ) (now : Option Files)
    → IsGathered (option_map (with_file one made.first) start) other made.second s now → length s ≤ 16384
    → AreNearlyWritten (most_gathered (one ∷ other ∷ [])) (outputs_of (one ∷ other ∷ []) made) start now
nearly_second one other start made s now is less = grind (arith, append-nil)

-- both were
pub whole_both : (one other : List ℕ) (start : Option Files) (made : Made) (now : Option Files)
    → now ≡ option_map (with_file other made.second) (option_map (with_file one made.first) start)
    → AreNearlyWritten (most_gathered (one ∷ other ∷ [])) (outputs_of (one ∷ other ∷ []) made) start now
whole_both one other start made now is = grind (arith, append-nil)
