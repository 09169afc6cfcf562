-- What a repeater keeps, and the segments and packets that it stands for.
use Rattle.std.specs.Prelude.{ℕ, ℤ, ◌≡◌, ◌+◌, ◌%◌, ◌==◌, if◌then◌else◌, IfSome, List, [], length}
use Rattle.dtx_exciter.specs.Emission.{Holds, last_segments}
use Rattle.dtx_exciter.specs.Kept as exciter
use Rattle.dtx_exciter.specs.Packets.{last_answer}
use Rattle.dtx_exciter.specs.declared.answers.Told.{Told}
use Rattle.dtx_receiver.specs.Bytes.{bytes_in}
use Rattle.dtx_receiver.specs.Packets.{early_of}
use Rattle.dtx_receiver.specs.Receiver as receiver
use Rattle.dtx_receiver.specs.Runs.{tracked}
use Rattle.dtx_receiver.specs.declared.tracking.Tracking.{Tracking}
use Rattle.dtx_receiver.specs.declared.tracking.Tracking.TheVariants.{Began}
use Rattle.dtx_repeat.specs.Restored.{first_place}
use Rattle.dtx_repeat.specs.declared.repeater.Repeater.{Repeater}

-- the place in its frame of the next packet that is given for a run
abbrev pub next_place : List (List ℤ) → ℕ
next_place run = (first_place run + length (early_of (bytes_in run))) % 624

-- The repeater received these segments, and its exciter was given these packets since it was new or the last run began.
-- Or it is one that answers as that repeater does.
pub record StandsFor (address delay : ℕ) (repeater : Repeater) (segments : List (List ℤ)) (given : List (List ℕ)) :
    Type 0 where
  pub receiver : receiver.StandsFor repeater.receiver segments
  pub place : IfSome (tracked segments).run (λ run. repeater.place ≡ next_place run)
  pub exciter : exciter.StandsFor address delay repeater.exciter given

-- what the exciter was given, after a segment with this answer: nothing if a run began
abbrev pub given_behind : Tracking → List (List ℕ) → List (List ℕ)
given_behind Began given = []
given_behind tracking given = given

-- the same after some segments with which so many runs began: nothing if one did
abbrev pub given_with : ℕ → List (List ℕ) → List (List ℕ)
given_with begins given = if begins == 0 then given else []

-- The repeater after its exciter was given the last of these packets, the answer to it, and the segments that it gives.
pub record IsSent (a d : ℕ) (segments : List (List ℤ)) (packets : List (List ℕ)) (repeater : Repeater)
    (answered : Told) (count : ℕ) (symbols : List ℤ) : Type 0 where
  pub answer : answered ≡ last_answer a d packets
  pub air : Holds (last_segments a d packets) count symbols
  pub stands : StandsFor a d repeater segments packets
