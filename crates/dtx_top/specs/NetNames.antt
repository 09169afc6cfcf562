-- The names of a network's files, and the name in its line.
use Rattle.std.specs.Prelude.{◌≡◌, ℕ, nat_eq, Bool, false, if◌then◌else◌, List, [], ◌∷◌, Option, Some, None, Result, Ok}
use Rattle.std.specs.Prelude.{Err, slice_index_or, ◌||◌}
use Rattle.std.specs.FinMap.{get}
use Rattle.dtx_meaning.specs.declared.status.Status.{Status}
use Rattle.dtx_meaning.specs.declared.status.Status.TheVariants.{Absent, Same}
use Rattle.dtx_outside.specs.Shelf.{Files}
use Rattle.dtx_plan.specs.Plan.{plan_of}
use Rattle.dtx_plan.specs.declared.plan.NetPlan.{NetPlan}
use Rattle.dtx_plan.specs.declared.plan.Plan as whole
use Rattle.dtx_plan.specs.declared.plan.ReceivePlan.{ReceivePlan}
use Rattle.dtx_plan.specs.declared.refusal.PlanNo.{PlanNo}
use Rattle.dtx_words.specs.Names.{feed_name, symbol_name}
use Rattle.dtx_top.specs.Networks.{network_names}
use Rattle.std.specs.Str.{bytes_eq}

-- ---- the names of a network

-- the address of the transmitter whose symbols are received, or 0 without a receiver
abbrev pub receiver_of : Option ReceivePlan → ℕ
receiver_of None = 0
receiver_of (Some receiver) = receiver.from

-- the names of a network's inputs, by their numbers: PLAN, the stream, the feed, the symbols that are received
abbrev pub network_inputs : List ℕ → NetPlan → List (List ℕ)
network_inputs name network =
    name ∷ network.stream ∷ feed_name ∷ symbol_name (receiver_of network.receive) ∷ []

-- The names among which the line of a status has one: all names for `Same`, and those of the inputs for any other
-- status.
abbrev pub names_for : Status → List ℕ → whole.Plan → NetPlan → List (List ℕ)
names_for Same name plan network = network_names name plan network
names_for status name plan network = network_inputs name network

abbrev pub names_under : Status → List ℕ → whole.Plan → Option NetPlan → List (List ℕ)
names_under status name plan None = name ∷ []
names_under status name plan (Some network) = names_for status name plan network

abbrev pub names_said : Status → List ℕ → Result whole.Plan PlanNo → List (List ℕ)
names_said status name (Err refusal) = name ∷ []
names_said status name (Ok plan) = names_under status name plan plan.net

abbrev pub names_of_file : Status → List ℕ → Option (List ℕ) → List (List ℕ)
names_of_file status name None = name ∷ []
names_of_file status name (Some bytes) = names_said status name (plan_of bytes)

-- PLAN alone where it gives no network. Otherwise for `Same` PLAN, the stream, the feed, the files of the transmitters,
-- and the file of the packets received, if any. For any other status the names of the inputs.
abbrev pub net_names : Status → List (List ℕ) → Files → List (List ℕ)
net_names status (verb ∷ plan ∷ []) held = names_of_file status plan (get held plan)
net_names status words held = []

-- ---- the name in the line

-- the word PLAN
abbrev pub plan_word : List (List ℕ) → List ℕ
plan_word words = slice_index_or words 1 []

-- the plan isn't there
abbrev pub misses_plan : Status → Bool
misses_plan (Absent input) = nat_eq input 0
misses_plan _ = false

-- the name in the line: that of the plan where it isn't there, and otherwise the name that is kept beside the answer
abbrev pub told_name : List ℕ → Status → List ℕ → List ℕ
told_name plan status kept = if misses_plan status then plan else kept

-- the name of an input that isn't there: 1 is the stream, 2 the feed, 3 the symbols that are received; else no name
abbrev pub kept_name : NetPlan → Status → List ℕ
kept_name network (Absent input) =
    if nat_eq input 1 then network.stream
    else if nat_eq input 2 then feed_name
    else if nat_eq input 3 then symbol_name (receiver_of network.receive) else []
kept_name network _ = []

-- what is known of the name that is kept, whether or not the files are told
pub record IsKeptName (status : Status) (kept : List ℕ) : Type 0 where
  pub feed : status ≡ Absent 2 → kept ≡ feed_name
  pub symbols : status ≡ Absent 3 → (address : ℕ) × (kept ≡ symbol_name address)

-- what is known of the name in the line, whether or not the files are told
pub record IsUntoldName (word : List ℕ) (status : Status) (name : List ℕ) : Type 0 where
  pub plan : status ≡ Absent 0 → name ≡ word
  pub feed : status ≡ Absent 2 → name ≡ feed_name
  pub symbols : status ≡ Absent 3 → (address : ℕ) × (name ≡ symbol_name address)

-- a name is the plan's or the stream's
abbrev pub is_given : List ℕ → List ℕ → List ℕ → Bool
is_given plan stream name = bytes_eq plan name || bytes_eq stream name
