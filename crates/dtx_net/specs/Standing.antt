-- What the exciters of a network keep of the steps that were done with it.
use Rattle.std.specs.Prelude.{ℕ, ℤ, ◌≡◌, ◌≢◌, Some, List, [], ◌∷◌, ◌++◌, length, slice_get, vec_len}
use Rattle.dtx_plan.specs.declared.transmitter.Transmitter.{Transmitter}
use Rattle.dtx_exciter.specs.declared.exciter.Exciter.{Exciter}
use Rattle.dtx_exciter.specs.declared.answers.Told.{Told}
use Rattle.dtx_exciter.specs.Packets.{last_answer}
use Rattle.dtx_exciter.specs.Emission.{Holds, last_segments}
use Rattle.dtx_exciter.specs.Kept as exciter
use Rattle.dtx_net.specs.declared.net.Net.{Net}
use Rattle.dtx_net.specs.Steps.{Step, packet_step}
use Rattle.dtx_net.specs.Lives.{last_life}

-- each exciter of the network of these transmitters stands for the last life of its transmitter in these steps
pub record StandsFor (ts : List Transmitter) (net : Net) (steps : List Step) : Type 0 where
  pub transmitters : net.transmitters ≡ ts
  pub long : vec_len net.exciters ≡ length ts
  pub each : (who : ℕ) (t : Transmitter) (e : Exciter) → slice_get ts who ≡ Some t
      → slice_get net.exciters.items who ≡ Some e
      → exciter.StandsFor t.address t.delay e (last_life who steps)

-- n new exciters, those of the first n transmitters
pub record AreNew (n : ℕ) (ts : List Transmitter) (exciters : List Exciter) : Type 0 where
  pub long : length exciters ≡ n
  pub each : (who : ℕ) (t : Transmitter) (e : Exciter) → slice_get ts who ≡ Some t → slice_get exciters who ≡ Some e
      → exciter.StandsFor t.address t.delay e []

-- The network after the transmitter at a place is given a packet behind these steps, its answer, and the segments that
-- it gives.
pub record IsGiven (ts : List Transmitter) (steps : List Step) (who : ℕ) (t : Transmitter) (packet : List ℕ) (net : Net)
    (answered : Told) (count : ℕ) (symbols : List ℤ) : Type 0 where
  pub answer : answered ≡ last_answer t.address t.delay (last_life who steps ++ packet ∷ [])
  pub air : Holds (last_segments t.address t.delay (last_life who steps ++ packet ∷ [])) count symbols
  pub stands : StandsFor ts net (steps ++ packet_step who packet ∷ [])

-- nothing but the exciter at a place may have changed
pub record ChangesOnly (who : ℕ) (old made : Net) : Type 0 where
  pub transmitters : made.transmitters ≡ old.transmitters
  pub long : vec_len made.exciters ≡ vec_len old.exciters
  pub others : (other : ℕ) → other ≢ who → slice_get made.exciters.items other ≡ slice_get old.exciters.items other
