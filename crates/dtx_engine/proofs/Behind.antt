-- What is answered where a call is refused behind a piece: what a count tells comes before lack of memory.
use Rattle.std.proofs.Common.{ℕ, List, Bool, true, false, Option, Some, None, inl, inr, nat_lt, arith}
use Rattle.std.specs.Prelude.{if◌then◌else◌}
use Rattle.dtx_outside.specs.Counts.{Counts, HasGone}
use Rattle.dtx_meaning.proofs.MeaningLemmas.{fault_behind, fault_of_input, fault_present, gone_over, one_behind}
use Rattle.dtx_meaning.specs.Status.{IsFault, IsOfInput, blame_of, ended}
use Rattle.dtx_meaning.specs.declared.status.Status.{Status}
use Rattle.dtx_engine.specs.Course.{IsEndOfInput, IsFaultEnding, IsNext, IsPresentEnding, blame_of_ending}
use Rattle.dtx_engine.specs.Course.{status_behind}
use Rattle.dtx_engine.specs.Recipe.{Course, IsAnswerOf, Recipe, course_from, whole_units}
use Rattle.dtx_engine.specs.declared.engine.Shape.{Shape}
use Rattle.dtx_engine.specs.declared.piece.Ending.{Ending}
use Rattle.dtx_engine.specs.declared.piece.Ending.TheVariants.{Whole, Refused}
use Rattle.dtx_engine.proofs.AnswersLemmas.{behind_answers, fault_answers}
use Rattle.dtx_engine.proofs.Gone.{gone_behind}

-- it is an answer of the input
pub input_behind : (number : ℕ) (last : Option Ending) (refusal : Status) → IsEndOfInput number last → IsFault refusal
    → IsOfInput number (status_behind last refusal)
input_behind number (Some (Refused first)) refusal was fault = grind (arith, one_behind, fault_of_input)
input_behind number (Some (Whole loose)) refusal was fault = fault_of_input number refusal fault
input_behind number None refusal was fault = fault_of_input number refusal fault

-- and one of what is made of it
pub answer_behind : (recipe : Recipe) (last : Option Ending) (refusal : Status) → IsFault refusal
    → IsAnswerOf recipe (ended (status_behind last refusal))
answer_behind recipe (Some (Refused first)) refusal fault = behind_answers recipe first refusal fault
answer_behind recipe (Some (Whole loose)) refusal fault = fault_answers recipe refusal fault
answer_behind recipe None refusal fault = fault_answers recipe refusal fault

-- the counts have gone with it
pub gone_behind_piece : (last : Option Ending) (refusal : Status) (before between now : Counts) → IsFault refusal
    → HasGone before between (blame_of_ending last) → HasGone between now (blame_of refusal)
    → HasGone before now (blame_of (status_behind last refusal))
gone_behind_piece (Some (Refused first)) refusal before between now fault was is = grind (arith, gone_over)
gone_behind_piece (Some (Whole loose)) refusal before between now fault was is =
    gone_behind (blame_of refusal) before between now was is
gone_behind_piece None refusal before between now fault was is =
    gone_behind (blame_of refusal) before between now was is

-- ---- over a file that is there

one_of : (b : Bool) (x y : Course) → IsPresentEnding x.ending → IsPresentEnding y.ending
    → IsPresentEnding (if◌then◌else◌ {A = Course} b x y).ending
one_of true x y first second = first
one_of false x y first second = second

-- the course of a file tells of no absent input
course_present : (shape : Shape) (file : List ℕ) (found : Option ℕ)
    → IsPresentEnding (course_from shape file found).ending
course_present shape file (Some k) = tt
course_present shape file None = one_of (nat_lt shape.limit (whole_units shape file)) _ _ tt tt

fault_ending : (ending : Ending) → IsFaultEnding ending → IsPresentEnding ending
fault_ending (Whole loose) fault = tt
fault_ending (Refused status) fault = fault_present status fault

-- nor does the end of its last piece
pub ending_present : (shape : Shape) (recipe : Recipe) (file : List ℕ) (count units : ℕ) (ending : Ending)
    → IsNext shape recipe file count units (Some ending) → IsPresentEnding ending
ending_present shape recipe file count units ending (inl fault) = fault_ending ending fault.0
ending_present shape recipe file count units ending (inr end) = grind (arith, course_present)

-- so a fault behind a piece is answered by a fault
pub piece_faulted : (shape : Shape) (recipe : Recipe) (file : List ℕ) (count units : ℕ) (last : Option Ending)
    (refusal : Status) → IsNext shape recipe file count units last → IsFault refusal
    → IsFault (status_behind last refusal)
piece_faulted shape recipe file count units (Some (Refused first)) refusal next fault =
    fault_behind first refusal (ending_present shape recipe file count units (Refused first) next) fault
piece_faulted shape recipe file count units (Some (Whole loose)) refusal next fault = fault
piece_faulted shape recipe file count units None refusal next fault = fault
