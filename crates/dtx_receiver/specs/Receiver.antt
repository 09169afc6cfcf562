-- What a receiver keeps, and the segments that it stands for.
use Rattle.std.specs.Prelude.{ℕ, ℤ, ◌≡◌, ◌+◌, ◌*◌, ◌<◌, ◌%◌, Option, option_map, IfSome, List, [], ◌∷◌, ◌++◌, length}
use Rattle.std.specs.Prelude.{take}
use Rattle.std.specs.List.{flat_map}
use Rattle.dtx_outer.specs.Inner as inner
use Rattle.dtx_whiten.specs.Randomizer.{randomizer_bytes}
use Rattle.dtx_receiver.specs.declared.batch.Received.{Received}
use Rattle.dtx_receiver.specs.declared.tracking.Tracking.{Tracking}
use Rattle.dtx_receiver.specs.Runs.{runs, tracked, tracking}
use Rattle.dtx_receiver.specs.Packets.{so_far_of}
use Rattle.dtx_receiver.specs.Bytes.{data_count, groups_of, levels_from, levels_in, precoder_bits_in, bytes_in}

-- What is kept of a run's groups: the levels of the group under way, Z2 of the twelve coders before it, and the bytes
-- of the whole groups that weren't passed on.
pub record Grouping : Type 0 where
  pub levels : List ℕ
  pub precoder_bits : List ℕ
  pub held : List (List ℕ)

-- What a decoder keeps of a run: the levels of the group under way, Z2 of the twelve coders before it, what the outer
-- decoding keeps, and how many data segments are in whole groups, modulo 52.
pub record Decoding : Type 0 where
  pub levels : List ℕ
  pub precoder_bits : List ℕ
  pub inner : inner.Kept
  pub turn : ℕ

-- The kept levels begin with those of the run's group under way. The kept bits are Z2 of the twelve coders before this
-- group.
pub record AreLevels (kept bits : List ℕ) (run : List (List ℤ)) : Type 0 where
  pub some : 0 < length run
  pub long : length (levels_in run) ≡ 3312 * groups_of run
  pub levels : take (828 * (data_count run % 4)) kept ≡ levels_from run (4 * groups_of run) (data_count run % 4)
  pub precoder_bits : bits ≡ precoder_bits_in run

-- What is kept of groups is what the segments of the run leave. The bytes `given` were passed on, and the others are
-- held.
pub record AreGrouped (kept : Grouping) (run : List (List ℤ)) (given : List ℕ) : Type 0 where
  pub levels : AreLevels kept.levels kept.precoder_bits run
  pub bytes : bytes_in run ≡ given ++ flat_map (λ bytes. bytes) kept.held
  pub long : length (flat_map (λ bytes. bytes) kept.held) ≡ 828 * length kept.held

-- what a decoder keeps is what the segments of the run leave
pub record Decodes (kept : Decoding) (run : List (List ℤ)) : Type 0 where
  pub levels : AreLevels kept.levels kept.precoder_bits run
  pub inner : inner.StandsFor 207 187 52 4 kept.inner (bytes_in run)
  pub turn : kept.turn ≡ 4 * groups_of run % 52

-- What holds of a decoder, whatever it was given: no bytes of groups are held, the whitener's bytes are the
-- randomizer's, and the turn is below 52.
pub record IsDecoding (groups : Grouping) (inner : inner.Kept) (turn : ℕ) : Type 0 where
  pub none : groups.held ≡ []
  pub white : inner.white ≡ randomizer_bytes
  pub in_turn : turn < 52

-- ---- for any decoder of runs

-- how many segments the run that is on has, modulo 313, and what a decoder keeps of it
pub record Kept (D : Type 0) : Type 0 where
  pub place : Option ℕ
  pub decoding : D

-- A place and a decoder are as these segments leave them. The place is the length of the run that is on, modulo 313, or
-- `None` where no run is on. The decoder holds what this run leaves.
pub record HasRun {D : Type 0} (Holds : D → List (List ℤ) → Type 0) (at : Option ℕ) (held : D)
    (segments : List (List ℤ)) : Type 0 where
  pub place : at ≡ option_map (λ run. length run % 313) (tracked segments).run
  pub run : IfSome (tracked segments).run (λ run. Holds held run)

-- what is kept is what these segments leave
abbrev pub Stands : {D : Type 0} → (D → List (List ℤ) → Type 0) → Kept D → List (List ℤ) → Type 0
Stands Holds receiver segments = HasRun Holds receiver.place receiver.decoding segments

-- the same of the receiver that corrects words
abbrev pub StandsFor : Kept Decoding → List (List ℤ) → Type 0
StandsFor receiver segments = Stands Decodes receiver segments

-- `given` are the packets of a list that are given before it ends, and `all` those of the whole list. A run gives
-- `early` while it is on, which is nothing for its first segment, and `whole` in all.
pub record AreGiven (whole early given all : List (List ℤ) → List Received) : Type 0 where
  pub first : (x : List ℤ) → early (x ∷ []) ≡ []
  pub so_far : (s : List (List ℤ)) → given s ≡ so_far_of whole early s
  pub ended : (s : List (List ℤ)) → all s ≡ flat_map whole (runs s)

-- What holds of a decoder of runs. The packets given are those of runs. At a later field sync of a run the decoder may
-- stay as it is, since the sync brings no packet.
pub record IsDecoder {D : Type 0} (Holds : D → List (List ℤ) → Type 0)
    (whole early given all : List (List ℤ) → List Received) : Type 0 where
  pub packets : AreGiven whole early given all
  pub sync_held : (x : List ℤ) (d : D) (run : List (List ℤ)) → Holds d run → length run % 313 ≡ 0
      → Holds d (run ++ x ∷ [])
  pub sync_given : (x : List ℤ) (d : D) (run : List (List ℤ)) → Holds d run → length run % 313 ≡ 0
      → early (run ++ x ∷ []) ≡ early run ++ []

-- A receiver takes the segment x behind these segments. The answer is what x is. The receiver then holds what the
-- longer list leaves, and the packets that it brought follow those given before.
pub record IsFollowed (Stands : List (List ℤ) → Type 0) (given : List (List ℤ) → List Received)
    (segments : List (List ℤ)) (x : List ℤ) (answer : Tracking) (brought : List Received) : Type 0 where
  pub told : answer ≡ tracking segments x
  pub stands : Stands (segments ++ x ∷ [])
  pub packets : given (segments ++ x ∷ []) ≡ given segments ++ brought

-- A receiver takes the segments `more` together, behind these segments. It then holds what the longer list leaves, the
-- packets that it brought follow those given before, and `begins` runs more have begun.
pub record AreReceived (Stands : List (List ℤ) → Type 0) (given : List (List ℤ) → List Received)
    (segments more : List (List ℤ)) (begins : ℕ) (brought : List Received) : Type 0 where
  pub stands : Stands (segments ++ more)
  pub packets : given (segments ++ more) ≡ given segments ++ brought
  pub runs : length (runs (segments ++ more)) ≡ length (runs segments) + begins
