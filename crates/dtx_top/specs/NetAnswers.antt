-- What the answer of `net`, and of the network of `trial`, can be, whether or not the files are told.
use Rattle.std.specs.Prelude.{◌≡◌, ◌≢◌, ◌⊎◌, ℕ, ◌<◌, ◌≤◌, List, [], ◌∷◌, length, Option, Some, None}
use Rattle.dtx_meaning.specs.declared.status.Outcome.{Outcome}
use Rattle.dtx_meaning.specs.declared.status.Status.{Status}
use Rattle.dtx_meaning.specs.declared.status.Status.TheVariants.{Done, Usage, Same, Absent, Plan}
use Rattle.dtx_meaning.specs.declared.status.Status.TheVariants.{OutOfAir}
use Rattle.dtx_plan.specs.declared.plan.ReceivePlan.{ReceivePlan}

-- An answer where the words fit. An absent input has number 0 to 3: the plan, the stream, the feed, or the symbols that
-- are received.
abbrev pub IsOfNetwork : Status → Type 0
IsOfNetwork Usage = ⊥
IsOfNetwork (Absent input) = input < 4
IsOfNetwork status = Unit {0}

-- the plan asks for a receiver, and for damage over what it receives
abbrev pub HasDamage : Option ReceivePlan → Type 0
HasDamage None = ⊥
HasDamage (Some receiver) = receiver.damage ≢ []

-- An answer once the plan is read and no two names are equal. Then an absent input isn't the plan. An entry of damage
-- ends past the symbols only where there is damage.
abbrev pub IsOfReplay : Option ReceivePlan → Status → Type 0
IsOfReplay receive Usage = ⊥
IsOfReplay receive Same = ⊥
IsOfReplay receive (Plan refusal) = ⊥
IsOfReplay receive (Absent input) = (1 ≤ input) × (input < 4)
IsOfReplay receive (OutOfAir entry) = HasDamage receive
IsOfReplay receive status = Unit {0}

-- words that don't fit are answered `Usage`, and no others are
abbrev pub IsOfNetWords : List (List ℕ) → Status → Type 0
IsOfNetWords (verb ∷ plan ∷ []) status = IsOfNetwork status
IsOfNetWords words status = status ≡ Usage

-- The line of a network that is done shows three numbers or six. If the files are told, the meaning says which.
abbrev pub ShowsNetwork : Status → Outcome → Type 0
ShowsNetwork status outcome = status ≡ Done → (length outcome.numbers ≡ 3) ⊎ (length outcome.numbers ≡ 6)

-- if it is done, it has so many numbers
abbrev pub HasCount : ℕ → Outcome → Type 0
HasCount count outcome = outcome.status ≡ Done → length outcome.numbers ≡ count

-- how many numbers a network has, where it is done
abbrev pub count_of : Option ReceivePlan → ℕ
count_of None = 3
count_of (Some receiver) = 6
