-- A trial is done: its feed is made, its events are within it, and its symbols are received.
use Rattle.std.proofs.Common.{◌≡◌, ℕ, ◌≤◌, List, [], length, arith}
use Rattle.std.proofs.lemmas.Bool.{cond-true}
use Rattle.dtx_recipes.specs.Hurt.{first_past}
use Rattle.dtx_meaning.specs.declared.status.Outcome.{Outcome}
use Rattle.dtx_meaning.specs.declared.status.Status.TheVariants.{Done}
use Rattle.dtx_top.specs.NetMeaning.{received_past}
use Rattle.dtx_top.specs.Networks.{sent_file}
use Rattle.dtx_top.specs.Trial.{trial_made, trial_network, trial_plan, trial_played}
use Rattle.dtx_top.specs.WorkedNetwork.{made_packets}
use Rattle.dtx_top.proofs.TrialAnswers.{TrialLaw}
use Rattle.dtx_top.proofs.TrialFed.{events_inside, fed_done, trial_packets}
use Rattle.dtx_top.proofs.TrialReceived.{ReceivedLaws, received_done}
use Rattle.dtx_top.proofs.Trials.{is_plan}

-- the symbols that are received
abbrev trial_symbols : ℕ → ℕ → List ℕ
trial_symbols seed count = sent_file (trial_plan seed count) (trial_network seed count) (made_packets seed count) 3

-- what is answered of symbols without damage
abbrev answer_of : List ℕ → Outcome
answer_of symbols = (received_past (first_past [] (length symbols)) [] symbols).outcome

-- receiving them is done
abbrev IsReceived : ℕ → ℕ → Type 0
IsReceived seed count = (answer_of (trial_symbols seed count)).status ≡ Done

-- over what is received of transmitter 3
received_so : (seed count : ℕ) → count ≤ 1000000 → IsReceived seed count → (trial_made seed count).outcome.status ≡ Done
unfolding trial_played
received_so seed count most received = grind (arith, cond-true, fed_done, trial_packets, events_inside)

pub trial_done : ReceivedLaws → TrialLaw
trial_done laws seed count small least most =
    received_so seed count most (received_done laws seed count least most (is_plan seed count))
