-- The symbols that a transmitter has sent: their number, as it is counted, serves in place of the length of their file.
use Rattle.std.proofs.Common.{◌≡◌, ℕ, ◌+◌, ◌*◌, ◌-◌, ◌^◌, Bool, true, cond, not, List, [], ◌∷◌, length, refl, ap₂}
use Rattle.std.proofs.Common.{arith}
use Rattle.std.specs.Prelude.{Some, min, slice_get}
use Rattle.std.specs.List.{All, position_or_len}
use Rattle.std.proofs.lemmas.Bool.{cases_lt, false≢true, le-ltb}
use Rattle.std.proofs.lemmas.List.Elements.{All-head, All-tail}
use Rattle.dtx_recipes.specs.Hurt.{first_past}
use Rattle.dtx_net.specs.Steps.{Step, transmitter_place}
use Rattle.dtx_net.proofs.PlaceOfLemmas.{place_found, place_missing}
use Rattle.dtx_network.specs.Network.{steps_under}
use Rattle.dtx_plan.specs.Sound.{IsDamage}
use Rattle.dtx_plan.specs.TransmitterTable.{has_address}
use Rattle.dtx_plan.specs.declared.plan.NetPlan.{NetPlan}
use Rattle.dtx_plan.specs.declared.plan.Plan.{Plan}
use Rattle.dtx_plan.specs.declared.plan.ReceivePlan.{ReceivePlan}
use Rattle.dtx_plan.specs.declared.transmitter.Transmitter.{Transmitter}
use Rattle.dtx_schedule.specs.Playout.{SentBy}
use Rattle.dtx_schedule.specs.TransmitterFiles.{symbol_file}
use Rattle.dtx_top.specs.Networks.{sent_file}
use Rattle.dtx_top.proofs.SegmentsSent.{length-symbol_file}

-- ---- the first entry past the end

position_same : {X : Type 0} (p q : X → Bool) (xs : List X) → All (λ x. p x ≡ q x) xs
    → position_or_len p xs ≡ position_or_len q xs
position_same p q [] same = refl
position_same p q (x ∷ xs) same = ap₂ (λ b n. cond (not b) (1 + n) 0) (All-head (λ x. p x ≡ q x) x xs same)
    (position_same p q xs (All-tail (λ x. p x ≡ q x) x xs same))

-- ---- the transmitter of the receiver

-- where an address stands in the list
pub record IsPlace (ts : List Transmitter) (address who : ℕ) (t : Transmitter) : Type 0 where
  pub place : transmitter_place address ts ≡ Some who
  pub here : slice_get ts who ≡ Some t
  pub own : t.address ≡ address

pub place_there : (ts : List Transmitter) (address : ℕ) → has_address address ts ≡ true
    → (who : ℕ) × (t : Transmitter) × IsPlace ts address who t
place_there ts address listed = grind (arith, false≢true, place_missing, place_found)

pub sent_file_is : (plan : Plan) (network : NetPlan) (stream : List (List ℕ)) (address who : ℕ) (t : Transmitter)
    → IsPlace plan.transmitters address who t
    → sent_file plan network stream address ≡ symbol_file t who (steps_under plan stream network.events)
unfolding sent_file
sent_file_is plan network stream address who t is = grind arith

-- what was counted of it serves in place of its length
pub counted_serves : (ts : List Transmitter) (steps : List Step) (receiver : ReceivePlan) (who segments symbols : ℕ)
    (t : Transmitter) → IsPlace ts receiver.from who t
    → SentBy receiver.from ts steps segments → All IsDamage receiver.damage
    → symbols ≡ min (segments * 832) (2 ^ 64 - 1)
    → first_past receiver.damage symbols ≡ first_past receiver.damage (length (symbol_file t who steps))
unfolding first_past
counted_serves ts steps receiver who segments symbols t is counted each told =
    grind (arith, position_same, cases_lt, le-ltb, length-symbol_file)
