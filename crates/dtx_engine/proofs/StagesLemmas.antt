-- Lemmas of the stages of a command: what is asked, what isn't read, and what is written by then.
use Rattle.std.proofs.Common.{◌≡◌, ◌≢◌, Bool, true, false, ℕ, zero, suc, ◌+◌, ◌*◌, ◌<◌, ◌≤◌, List, [], ◌∷◌, ◌++◌}
use Rattle.std.proofs.Common.{length, take, drop, replicate, refl, sym, ap, ◌∙◌, arith}
use Rattle.std.specs.Prelude.{Option, Some, None, Err, IfSome}
use Rattle.std.proofs.lemmas.List.{append-nil}
use Rattle.dtx_outside.specs.Counts.{Blame, Counts, Nothing, Reading, Rose}
use Rattle.dtx_outside.specs.Foreseen.{Foreseen, IsForeseenFill}
use Rattle.dtx_outside.specs.Shelf.{Files}
use Rattle.dtx_outside.specs.declared.shelf.ReadNo.{ReadNo}
use Rattle.dtx_outside.specs.declared.shelf.ReadNo.TheVariants as read
use Rattle.dtx_outside.specs.declared.shelf.WriteNo.TheVariants as write
use Rattle.dtx_meaning.specs.Status.{blame_of, ended, of_read, refused_behind}
use Rattle.dtx_meaning.specs.declared.status.Status.{Status}
use Rattle.dtx_meaning.specs.declared.status.Status.TheVariants.{Absent, ReadFault, WriteFault, Memory}
use Rattle.dtx_engine.specs.Course.{status_behind}
use Rattle.dtx_engine.specs.Made.{Made, joined, outputs_of}
use Rattle.dtx_engine.specs.Recipe.{Recipe, first_units}
use Rattle.dtx_engine.specs.Stages.{AreNearlyWritten, IsStopOf, IsStopped, IsUnread, most_gathered}
use Rattle.dtx_engine.specs.declared.engine.Shape.{Shape}
use Rattle.dtx_engine.specs.declared.piece.Ending.{Ending}
use Rattle.dtx_engine.specs.declared.piece.Ending.TheVariants.{Refused, Whole}

-- ---- reading a piece

not_nothing : ◌≡◌ {A = Blame} Reading Nothing → ⊥
not_nothing e = cc

-- an answer that is blamed on nothing is no read error
pub other_than_read : (status : Status) → blame_of status ≡ Nothing → status ≢ ReadFault
other_than_read status none = λ is. not_nothing (sym (ap (λ (s : Status). blame_of s) is) ∙ none)

same_count : (m n : ℕ) → ◌≡◌ {A = Option ℕ} (Some m) (Some n) → m ≡ n
same_count m n e = cc

unread_behind : (readable : Option ℕ) (number place wanted behind : ℕ) (cause : ReadNo) → place + wanted ≡ behind
    → IsForeseenFill readable place wanted (Err cause) → of_read number cause ≡ ReadFault
    → (n : ℕ) → readable ≡ Some n → n < behind
unread_behind None number place wanted behind cause all fill is n e = grind arith
unread_behind (Some m) number place wanted behind read.Absent all fill is n e = absurd cc
unread_behind (Some m) number place wanted behind read.Failed all fill is n e =
    omega (arith, fill, all, same_count m n e)
unread_behind (Some m) number place wanted behind read.Memory all fill is n e = absurd cc

same_status : (a b : Status) → ◌≡◌ {A = Option Ending} (Some (Refused a)) (Some (Refused b)) → a ≡ b
same_status a b e = cc

-- a piece that couldn't be read
pub unread_stage : (readable : Option ℕ) (number place wanted behind : ℕ) (cause : ReadNo) (status : Status)
    → status ≡ of_read number cause → place + wanted ≡ behind → IsForeseenFill readable place wanted (Err cause)
    → IsUnread readable behind (record { units = 0; bytes = 0; ended = Some (Refused status) })
unread_stage readable number place wanted behind cause status is all fill = grind (arith, same_status, unread_behind)

-- ---- writing

-- a count that hasn't risen since an earlier moment hasn't since a later one
pub calm_behind : (a b c : ℕ) → a ≤ b → ¬ Rose a c → ¬ Rose b c
calm_behind a b c first calm rose = calm (λ more. omega (arith, first, rose more))

-- a call that is refused isn't done
pub not_refused : ◌≡◌ {A = Bool} false true → ⊥
not_refused e = cc

-- a read error behind which writing was refused was met before
pub read_behind : (first refusal : Status) → refusal ≢ ReadFault → refused_behind first refusal ≡ ReadFault
    → first ≡ ReadFault
read_behind ReadFault refusal other is = refl
read_behind (Absent input) Memory other is = absurd cc
read_behind WriteFault Memory other is = absurd cc
read_behind first refusal other is = absurd (other is)

pub ending_behind : (last : Option Ending) (refusal : Status) → refusal ≢ ReadFault
    → status_behind last refusal ≡ ReadFault → last ≡ Some (Refused ReadFault)
ending_behind (Some (Refused first)) refusal other is = grind (arith, read_behind)
ending_behind (Some (Whole loose)) refusal other is = absurd (other is)
ending_behind None refusal other is = absurd (other is)

-- a turn at which reading failed: what was given before is nearly written
pub turn_stopped : (shape : Shape) (recipe : Recipe) (names : List (List ℕ)) (held : Files) (file : List ℕ)
    (count : ℕ) (bytes : List ℕ) (taken n : ℕ) (now : Option Files) → taken ≡ 0
    → length bytes ≡ shape.unit * shape.units → n < shape.unit * count + length bytes
    → AreNearlyWritten (most_gathered names)
    (outputs_of names (recipe.made (first_units shape file count ++ take taken bytes))) (Some held) now
    → IsStopped names recipe.made file (shape.unit * shape.units) n (Some held) now
turn_stopped shape recipe names held file count bytes taken n now none room behind written = grind (arith, append-nil)

-- the same, counted from an earlier moment
pub stop_before : (foreseen : Foreseen) (shape : Shape) (recipe : Recipe) (input : List ℕ) (names : List (List ℕ))
    (held : Files) (file : List ℕ) (before between after : Counts) (status : Status) (now : Option Files)
    → before.write_faults ≤ between.write_faults
    → IsStopOf foreseen shape recipe input names held file between after status now
    → IsStopOf foreseen shape recipe input names held file before after status now
stop_before foreseen shape recipe input names held file before between after status now first stop =
    grind (arith, calm_behind)

-- what an engine makes of nothing is nothing
pub nothing_made : (made gives : Made) → made ≡ joined made gives → (gives.first ≡ []) × (gives.second ≡ [])
nothing_made made gives is = (grind (arith, append-cancel-nil))
  where
    append-cancel-nil : (xs ys : List ℕ) → xs ≡ xs ++ ys → ys ≡ []
    append-cancel-nil [] ys e = sym e
    append-cancel-nil (x ∷ xs) ys e = append-cancel-nil xs ys (ap (drop 1) e)

-- no zeros and no bytes behind them
pub nothing_behind : (zeros : ℕ) (bytes made : List ℕ) → replicate zeros 0 ++ bytes ≡ made → made ≡ []
    → (zeros ≡ 0) × (bytes ≡ [])
nothing_behind zero bytes made is none = (refl, is ∙ none)
nothing_behind (suc zeros) bytes made is none = grind arith

-- ---- the stages

-- a fact of the files, where they are told
pub where_told : (told : Option Files) (P : Files → Type 0) → ((held : Files) → told ≡ Some held → P held)
    → IfSome told (λ held. P held)
where_told None P is = tt
where_told (Some held) P is = is held refl
