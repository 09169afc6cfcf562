-- What a network asks of its plan, its stream and its transmitters (the profile's own).
use Rattle.std.specs.Prelude.{ℕ, ◌≡◌, ◌≤◌, pos, ◌+ℤ◌, ◌≤ℤ◌, List, All, length}
use Rattle.std.specs.List.{Contains}
use Rattle.dtx_galois.specs.Field.{AreBytes}
use Rattle.dtx_plan.specs.Sound.{IsSound, IsTransmitter}
use Rattle.dtx_plan.specs.declared.plan.Plan.{Plan}
use Rattle.dtx_plan.specs.declared.transmitter.Transmitter.{Transmitter}

-- a plan is one that an adapter takes, and its transmitters' numbers are in their ranges
pub record IsPlan (plan : Plan) : Type 0 where
  pub sound : IsSound plan
  pub transmitters : All IsTransmitter plan.transmitters

-- a stream has packets of 188 bytes, each of them a byte, and at most 624,000,000 packets
pub record IsStream (stream : List (List ℕ)) : Type 0 where
  pub most : length stream ≤ 624000000
  pub long : All (λ packet. length packet ≡ 188) stream
  pub bytes : All AreBytes stream

-- the transmitter is one of the plan's
abbrev pub IsListed : Plan → Transmitter → Type 0
IsListed plan t = Contains plan.transmitters t

-- the transmitter is in time: its delay is at most the plan's maximum delay plus its offset
abbrev pub IsInTime : Plan → Transmitter → Type 0
IsInTime plan t = pos t.delay ≤ℤ (pos plan.max_delay +ℤ t.offset)
