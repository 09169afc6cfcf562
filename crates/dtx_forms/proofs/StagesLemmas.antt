-- Lemmas of the stages of a job: from those of its loop, where no file was touched, and behind a small file that was
-- read first.
use Rattle.std.proofs.Common.{◌≡◌, ◌≢◌, ◌⊎◌, ℕ, zero, suc, ◌*◌, ◌^◌, List, [], ◌∷◌, sym, subst, inl, inr, arith}
use Rattle.std.specs.Prelude.{Option, Some, None, Result, Ok, IfSome}
use Rattle.std.specs.FinMap.{get}
use Rattle.std.specs.List.{Contains}
use Rattle.dtx_outside.specs.Counts.{Counts, HasGone, Nothing}
use Rattle.dtx_outside.specs.Foreseen.{Foreseen}
use Rattle.dtx_outside.specs.Shelf.{Files}
use Rattle.dtx_outside.specs.declared.shelf.ReadNo.TheVariants as read
use Rattle.dtx_plan.specs.declared.refusal.PlanFault.TheVariants as fault
use Rattle.dtx_plan.specs.declared.refusal.PlanNo.{PlanNo}
use Rattle.dtx_meaning.specs.Status.{ended}
use Rattle.dtx_meaning.specs.declared.status.Outcome.{Outcome}
use Rattle.dtx_meaning.specs.declared.status.Status.{Status}
use Rattle.dtx_meaning.specs.declared.status.Status.TheVariants.{ReadFault}
use Rattle.dtx_engine.specs.Made.{Made}
use Rattle.dtx_engine.specs.Recipe.{Recipe}
use Rattle.dtx_engine.specs.Stages.{AreStages, IsStopped}
use Rattle.dtx_engine.specs.declared.engine.Shape.{Shape}
use Rattle.dtx_forms.specs.PlanFile.{IsReadAs}
use Rattle.dtx_forms.specs.Stages.{HasStages, IsStaged, Stages, made_said, made_under, stages_of, stages_under}

-- ---- the names

-- a name of one alone
only_one : (a x : List ℕ) → Contains (a ∷ []) x → x ≡ a
only_one a x (zero, within, is) = sym is
only_one a x (suc k, within, is) = absurd (omega (arith, within))

-- a name of two
one_of_two : (a b x : List ℕ) → Contains (a ∷ b ∷ []) x → (x ≡ a) ⊎ (x ≡ b)
one_of_two a b x (zero, within, is) = inl (sym is)
one_of_two a b x (suc k, within, is) = inr (only_one b x (k, omega (arith, within), is))

-- ---- the loop

-- the stages of the loop are those of a job that reads its input alone
pub loop_staged : (foreseen : Foreseen) (shape : Shape) (recipe : Recipe) (input : List ℕ) (outputs : List (List ℕ))
    (status : Status) (told now : Option Files) (before after : Counts)
    → IfSome told (λ held. AreStages foreseen shape recipe input outputs held before after status now)
    → IsStaged foreseen (Some (stages_of shape recipe input outputs)) status told now before after
loop_staged foreseen shape recipe input outputs status None now before after is = tt
loop_staged foreseen shape recipe input outputs status (Some held) now before after is = grind (arith, only_one)

-- ---- no file was touched

-- and the answer is no read error
pub kept_staged : (foreseen : Foreseen) (stages : Option Stages) (status : Status) (told now : Option Files)
    (before after : Counts) → status ≢ ReadFault → now ≡ told → IsStaged foreseen stages status told now before after
kept_staged foreseen None status told now before after other same = tt
kept_staged foreseen (Some stages) status None now before after other same = tt
kept_staged foreseen (Some stages) status (Some held) now before after other same = grind arith

-- an answer other than a read error
abbrev pub IsNotRead : Status → Type 0
IsNotRead ReadFault = ⊥
IsNotRead status = Unit {0}

-- such an answer alone
pub ended_staged : (foreseen : Foreseen) (stages : Option Stages) (outcome : Outcome) (status : Status)
    (told : Option Files) (counts : Counts) → outcome ≡ ended status → IsNotRead status
    → IsStaged foreseen stages outcome.status told told counts counts
ended_staged foreseen stages outcome status told counts is other = grind (arith, kept_staged)

-- ---- behind a small file that was read

-- what is made is what follows from what the file says
said_made : {T : Type 0} (said : List ℕ → Result T PlanNo) (number : ℕ) (found : Option (List ℕ)) (x : T)
    (recipe : T → Recipe) (P : (List ℕ → Made) → Type 0) → IsReadAs said found number (Ok x)
    → P (λ bytes. (recipe x).made bytes) → P (λ bytes. made_under said found recipe bytes)
said_made said number None x recipe P is made = absurd is
said_made said number (Some file) x recipe P is made = subst (λ r. P (λ bytes. made_said recipe r bytes)) (sym is) made

-- It says this, and the loop follows.
pub read_staged : {T : Type 0} (foreseen : Foreseen) (said : List ℕ → Result T PlanNo) (number : ℕ)
    (name : List ℕ) (x : T) (shape : Shape) (recipe : T → Recipe) (input : List ℕ) (outputs : List (List ℕ))
    (status : Status) (told between now : Option Files) (first before after : Counts) → between ≡ told
    → IfSome told (λ held. IsReadAs said (get held name) number (Ok x)) → foreseen.readable name ≢ Some 0
    → HasGone first before Nothing
    → IsStaged foreseen (Some (stages_of shape (recipe x) input outputs)) status between now before after
    → IsStaged foreseen (Some (stages_under said name shape recipe input outputs)) status told now first after
read_staged foreseen said number name x shape recipe input outputs status None between now first before after same read
    some stood is = tt
read_staged foreseen said number name x shape recipe input outputs status (Some held) between now first before after
    same read some stood is =
    let here : HasStages foreseen (stages_of shape (recipe x) input outputs) held status now first after =
    subst (λ (c : Counts). HasStages foreseen (stages_of shape (recipe x) input outputs) held status now c after)
    stood.risen (subst (λ (f : Option Files).
    IsStaged foreseen (Some (stages_of shape (recipe x) input outputs)) status f now before after) same is) in
    record {
      untouched = λ one among none. elim (one_of_two input name one among) [
        | inl is_input ↦ here.untouched one (0, omega arith, sym is_input) none
        | inr is_first ↦ absurd (some (subst (λ (n : List ℕ). foreseen.readable n ≡ Some 0) is_first none))
      ];
      stopped = λ n file least opened there calm fault.
          said_made said number (get held name) x recipe
          (λ made. IsStopped outputs made file (shape.unit * shape.units) n (Some held) now) read
          (here.stopped n file least (record { input = opened.input; before = none_among }) there calm fault);
    }
  where
    none_among : (one : List ℕ) → Contains [] one → foreseen.readable one ≡ Some (2 ^ 64)
    none_among one among = absurd (omega (arith, among.1))

-- It wasn't read, or breaks a rule.
pub unread_staged : {T : Type 0} (foreseen : Foreseen) (said : List ℕ → Result T PlanNo) (name : List ℕ)
    (cause : Status) (shape : Shape) (recipe : T → Recipe) (input : List ℕ) (outputs : List (List ℕ))
    (outcome : Outcome) (told now : Option Files) (before after : Counts) → now ≡ told
    → (foreseen.readable name ≡ Some (2 ^ 64) → cause ≢ ReadFault) → outcome ≡ ended cause
    → IsStaged foreseen (Some (stages_under said name shape recipe input outputs)) outcome.status told now before after
unread_staged foreseen said name cause shape recipe input outputs outcome None now before after same whole is = tt
unread_staged foreseen said name cause shape recipe input outputs outcome (Some held) now before after same whole is =
    grind arith
