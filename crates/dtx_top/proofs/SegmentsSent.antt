-- Every segment that a transmitter sends has 832 symbols, so that its symbol file has 832 bytes for each.
use Rattle.std.proofs.Common.{◌≡◌, ℕ, ℤ, ◌+◌, ◌-◌, ◌*◌, ◌/◌, ◌%◌, ◌≤◌, Option, Some, None, List, [], ◌∷◌, length, drop}
use Rattle.std.proofs.Common.{ap, ◌∙◌, arith}
use Rattle.std.specs.Prelude.{slice_index_or}
use Rattle.std.specs.List.{flat_map}
use Rattle.std.proofs.lemmas.Bool.{cases_lt, leb-true}
use Rattle.std.proofs.lemmas.List.{length-append, length-drop}
use Rattle.dtx_frame.specs.Segments.{field_sync}
use Rattle.dtx_frame.proofs.SymbolsLemmas.{length_front}
use Rattle.dtx_coder.specs.Along.{levels_since}
use Rattle.dtx_coder.specs.Stream.{whole_groups, four_segments, last_of}
use Rattle.dtx_coder.proofs.BytesLemmas.{length-whole}
use Rattle.dtx_coder.proofs.CountsLemmas.{AreSegments, segments_append, segments_map, segment_at}
use Rattle.dtx_coder.proofs.LevelsLemmas.{length-levels_of}
use Rattle.dtx_coder.proofs.SegmentsLemmas.{length-segment}
use Rattle.dtx_exciter.specs.Emission.{segments_since, sent_at, given_under, last_segments, emission}
use Rattle.dtx_exciter.proofs.ForceLemmas.{force_first, force_stands}
use Rattle.dtx_jobs.proofs.SymbolsBackLemmas.{length-segment_bytes}
use Rattle.dtx_net.specs.Lives.{sent_segments}
use Rattle.dtx_net.specs.Steps.{Step}
use Rattle.dtx_plan.specs.declared.transmitter.Transmitter.{Transmitter}
use Rattle.dtx_schedule.specs.TransmitterFiles.{symbol_file}

-- ---- the data segments of a group

length-levels_since : (g : ℕ) (q : List ℕ) (packets : List (List ℕ))
    → length (levels_since g q packets) ≡ 3312 * (length packets / 4 - g)
unfolding levels_since
length-levels_since g q packets =
    length-levels_of (4 * g % 312) q (drop (828 * g) (whole_groups packets)) (length packets / 4 - g)
    (omega (arith, length-drop (828 * g) (whole_groups packets), length-whole packets))

at_long : (address delay : ℕ) (packets : List (List ℕ)) (i : ℕ) → i + 4 ≤ length packets
    → AreSegments (sent_at address delay packets i)
unfolding sent_at segments_since four_segments
at_long address delay packets i within = grind (arith, segments_map, length-segment, length-levels_since, force_stands)

-- ---- with a field sync in front

last_long : (b : List ℤ) (bs : List (List ℤ)) → AreSegments (b ∷ bs)
    → length (last_of (slice_index_or (b ∷ bs) (length bs) [])) ≡ 12
unfolding last_of
last_long b bs long = length-drop 820 (slice_index_or (b ∷ bs) (length bs) [])
    ∙ ap (λ (n : ℕ). n - 820) (segment_at (b ∷ bs) (length bs) long (omega arith))

-- ---- what is given

under_long : (address delay : ℕ) (found : Option (List (List ℕ))) → AreSegments (given_under address delay found)
unfolding sent_at field_sync
under_long address delay None = tt
under_long address delay (Some packets) =
    grind (arith, length-append, length_front, last_long, leb-true, at_long, cases_lt, force_first)

flat_long : {X : Type 0} (f : X → List (List ℤ)) (xs : List X) → ((x : X) → AreSegments (f x))
    → AreSegments (flat_map f xs)
flat_long f [] each = tt
flat_long f (x ∷ xs) each = segments_append (f x) (flat_map f xs) (each x) (flat_long f xs each)

-- what a transmitter sends
pub sent_long : (t : Transmitter) (who : ℕ) (steps : List Step) → AreSegments (sent_segments t who steps)
unfolding sent_segments emission last_segments
sent_long t who steps = grind (arith, flat_long, under_long)

-- ---- its symbol file

pub length-symbol_file : (t : Transmitter) (who : ℕ) (steps : List Step)
    → length (symbol_file t who steps) ≡ 832 * length (sent_segments t who steps)
unfolding symbol_file
length-symbol_file t who steps = length-segment_bytes (sent_segments t who steps) (sent_long t who steps)
