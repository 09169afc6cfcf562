-- Laws: each answer of a command's recipe is one that the command may give (`IsKnown`).
use Rattle.std.specs.Prelude.{◌≡◌, ℕ, Bool, true, false, if◌then◌else◌, List, length}
use Rattle.std.proofs.Common.{refl, sym}
use Rattle.dtx_meaning.specs.Status.{done, ended}
use Rattle.dtx_meaning.specs.declared.status.Outcome.{Outcome}
use Rattle.dtx_meaning.specs.declared.status.Status.TheVariants.{TooLong, NoSync}
use Rattle.dtx_engine.specs.Recipe.{IsAnswerOf}
use Rattle.dtx_words.specs.Rows.{row_of}
use Rattle.dtx_words.specs.declared.rows.Command.{Command}
use Rattle.dtx_words.specs.declared.rows.Command.TheVariants.{Code, Excite, Receive, Soft, Mend, Repeat, Watch}
use Rattle.dtx_words.specs.declared.rows.Command.TheVariants.{Place, DvbCode, DvbRead}
use Rattle.dtx_forms.specs.Answers.{IsKnown, Knows}
use Rattle.dtx_forms.proofs.AnswersLemmas.{knows_by, none_refused}
use Rattle.dtx_recipes.specs.Code.{coding}
use Rattle.dtx_recipes.specs.DvbCode.{dvb_coding}
use Rattle.dtx_recipes.specs.DvbRead.{dvb_reading}
use Rattle.dtx_recipes.specs.Excite.{exciting}
use Rattle.dtx_recipes.specs.Giving.{Giving, receiving_by}
use Rattle.dtx_recipes.specs.Mend.{mending_symbols, with_mendings}
use Rattle.dtx_recipes.specs.Place.{placing}
use Rattle.dtx_recipes.specs.Receive.{receiving, with_corrections}
use Rattle.dtx_recipes.specs.Repeat.{repeating}
use Rattle.dtx_recipes.specs.Soft.{softening}
use Rattle.dtx_recipes.specs.Watch.{watching}

-- `code`
pub code_knows : (outcome : Outcome) → IsAnswerOf coding outcome → IsKnown Code outcome
code_knows = knows_by coding Code tt (λ k unit. tt) (λ given loose. refl)

-- `excite`
pub excite_knows : (address delay : ℕ) (outcome : Outcome) → IsAnswerOf (exciting address delay) outcome
    → IsKnown Excite outcome
excite_knows address delay =
    knows_by (exciting address delay) Excite tt (λ k unit. none_refused unit) (λ given loose. refl)

-- a command that needs a field sync, where `none` says that nothing was found (`synced`)
pub synced_known : (command : Command) (none : Bool) (numbers : List ℕ) → Knows command NoSync
    → length numbers ≡ length (row_of command).labels
    → IsKnown command (if none then ended NoSync else done numbers)
synced_known command true numbers missing all = missing
synced_known command false numbers missing all = all

-- `receive` and `mend`: any receiver
pub given_knows : (giving : Giving) (command : Command) → Knows command TooLong → Knows command NoSync
    → length (row_of command).labels ≡ 6
    → (outcome : Outcome) → IsAnswerOf (receiving_by giving) outcome → IsKnown command outcome
given_knows giving command long missing six =
    knows_by (receiving_by giving) command long (λ k unit. none_refused unit)
    (λ given loose. synced_known command _ _ missing (sym six))

pub receive_knows : (outcome : Outcome) → IsAnswerOf receiving outcome → IsKnown Receive outcome
receive_knows = given_knows with_corrections Receive tt tt refl

pub mend_knows : (outcome : Outcome) → IsAnswerOf mending_symbols outcome → IsKnown Mend outcome
mend_knows = given_knows with_mendings Mend tt tt refl

-- `repeat`
pub repeat_knows : (address delay : ℕ) (outcome : Outcome) → IsAnswerOf (repeating address delay) outcome
    → IsKnown Repeat outcome
repeat_knows address delay =
    knows_by (repeating address delay) Repeat tt (λ k unit. none_refused unit)
    (λ given loose. synced_known Repeat _ _ tt refl)

-- `soft`
pub soft_knows : (outcome : Outcome) → IsAnswerOf softening outcome → IsKnown Soft outcome
soft_knows = knows_by softening Soft tt (λ k unit. none_refused unit) (λ given loose. refl)

-- `watch`
pub watch_knows : (outcome : Outcome) → IsAnswerOf watching outcome → IsKnown Watch outcome
watch_knows = knows_by watching Watch tt (λ k unit. none_refused unit) (λ given loose. refl)

-- `place`
pub place_knows : (outcome : Outcome) → IsAnswerOf placing outcome → IsKnown Place outcome
place_knows = knows_by placing Place tt (λ k unit. tt) (λ given loose. refl)

-- `dvb code`
pub dvb_code_knows : (outcome : Outcome) → IsAnswerOf dvb_coding outcome → IsKnown DvbCode outcome
dvb_code_knows = knows_by dvb_coding DvbCode tt (λ k unit. tt) (λ given loose. refl)

-- `dvb read`
pub dvb_read_knows : (outcome : Outcome) → IsAnswerOf dvb_reading outcome → IsKnown DvbRead outcome
dvb_read_knows = knows_by dvb_reading DvbRead tt (λ k unit. none_refused unit) (λ given loose. refl)
