-- What a transmitter that is fed from the air sends (the profile's own, over the symbols of ATSC A/53 Part 2). Each run
-- of the segments that it receives is one life of its exciter.
use Rattle.std.specs.Prelude.{ℕ, ℤ, List, ◌++◌, map, option_to_list}
use Rattle.dtx_exciter.specs.Log.{Line, log, emission_over}
use Rattle.dtx_receiver.specs.Runs.{tracked, runs}
use Rattle.dtx_receiver.specs.declared.batch.Received.{Received}
use Rattle.dtx_repeat.specs.Restored.{run_restored, early_restored}

-- the bytes of each of these received packets
abbrev pub packets_in : List Received → List (List ℕ)
packets_in received = map (λ r. r.packet.0) received

-- the packets of a run, which the exciter is given in one life
unfoldable pub life_of : List (List ℤ) → List (List ℕ)
life_of run = packets_in (run_restored run)

-- the lives of a list of segments
unfoldable pub lives : List (List ℤ) → List (List (List ℕ))
lives segments = map life_of (runs segments)

-- the lives before the list ends: that of the present run has the packets that were given so far
unfoldable pub lives_so_far : List (List ℤ) → List (List (List ℕ))
lives_so_far segments =
    map life_of (tracked segments).ended ++ map (λ run. packets_in (early_restored run))
    (option_to_list (tracked segments).run)

-- the segments that are sent, and the log, in which a restart stands at the beginning of each run but the first
abbrev pub repeated : ℕ → ℕ → List (List ℤ) → List (List ℤ)
repeated address delay segments = emission_over address delay (lives segments)

abbrev pub repeated_log : ℕ → ℕ → List (List ℤ) → List Line
repeated_log address delay segments = log address delay 0 (lives segments)
