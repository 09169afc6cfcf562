-- A stretch as it was sent is readable, whatever stands before it and behind it.
use Rattle.std.proofs.Common.{◌≡◌, ◌⊎◌, inl, inr, ℕ, ℤ, ◌+◌, ◌-◌, ◌*◌, ◌/◌, ◌%◌, ◌<◌, ◌≤◌, List, [], ◌++◌, length, take}
use Rattle.std.proofs.Common.{get_or, sym, ap, subst, ◌∙◌, arith}
use Rattle.std.proofs.lemmas.Bool.{cases_lt}
use Rattle.std.proofs.lemmas.List.{length-take, length-drop, take_all, get_or-take, get_or-drop, get_or-append-add}
use Rattle.std.proofs.lemmas.List.{get_or_append_left}
use Rattle.dtx_outer.specs.Inner.{codeword_byte_place, IsComplete}
use Rattle.dtx_coder.specs.Stream.{a53}
use Rattle.dtx_receiver.specs.Bytes.{data_count, groups_of, bytes_in}
use Rattle.dtx_receiver.specs.Intervals.{segments_in}
use Rattle.dtx_exciter.specs.Lockstep.{segment_place}
use Rattle.dtx_chain.specs.Damage.{ArePackets, IsNear}
use Rattle.dtx_chain.proofs.FromSyncLemmas.{IsThere, length-bytes_there, front_near, some_segments}
use Rattle.dtx_network.specs.Headline.{last_packet, stretch_of}
use Rattle.dtx_network.specs.GivesBack.{BeginsField, to_field, word_of, CanBeGivenBack}
use Rattle.dtx_network.proofs.Back.{length-stretch_of}

-- ---- places

-- how many segments the stretch has from the field sync before packet f on
left_from : List (List ℕ) → ℕ → ℕ → ℕ → ℕ
left_from feed k end f = length (stretch_of feed k end) - to_field k f

field_turn : (f : ℕ) → f % 312 ≡ 0 → 312 * (f / 312) ≡ f
field_turn f z = omega (arith, z)

-- the segment of that field sync
sync_place : (k f : ℕ) → k < f → f % 312 ≡ 0 → segment_place k + to_field k f ≡ 313 * (f / 312)
sync_place k f l z = grind (arith, field_turn)

-- ---- the stretch's part of the run

stretch_within : (feed : List (List ℕ)) (k end : ℕ) → 0 < length (stretch_of feed k end)
    → segment_place k + length (stretch_of feed k end) ≤ length (a53 feed)
unfolding stretch_of
stretch_within feed k end l = grind (arith, length-take, length-drop)

-- a segment of the run, by what stands before it
run_at : (before rest : List (List ℤ)) (a n i : ℕ) → i < n
    → get_or (segments_in (before ++ rest) (length before + a, n)) i [] ≡ get_or rest (a + i) []
run_at before rest a n i l = grind (arith, get_or-take, get_or-drop, get_or-append-add)

-- the stretch's part stands in the feed's own segments
part_there : (feed : List (List ℕ)) (k end f n : ℕ) (before after : List (List ℤ)) → BeginsField k end f
    → let run : List (List ℤ) =
    segments_in (before ++ (stretch_of feed k end ++ after)) (length before + to_field k f, n) in
    0 < length run → to_field k f < length (stretch_of feed k end)
    → IsThere feed (f / 312) (take (left_from feed k end f) run)
unfolding left_from stretch_of
part_there feed k end f n before after begins some inside =
    grind (arith, sync_place, length-take, stretch_within, get_or-take, run_at, get_or_append_left, get_or-drop)

-- ---- the words that lie in it

-- the run ends within the stretch, or holds all of it from there on
complete_in : (feed : List (List ℕ)) (k end f j : ℕ) (run : List (List ℤ)) → ArePackets feed → end ≤ length feed
    → BeginsField k end f → IsThere feed (f / 312) (take (left_from feed k end f) run)
    → IsComplete 207 52 4 (length (bytes_in run)) j
    → ((i : ℕ) → i < 207 → f + 4 * (codeword_byte_place 52 4 (207 * j + i) / 828) + 3 ≤ last_packet end)
    → (length run < left_from feed k end f) ⊎ (left_from feed k end f ≤ length run)
    → IsComplete 207 52 4 (828 * groups_of (take (left_from feed k end f) run)) j
unfolding groups_of data_count left_from
complete_in feed k end f j run p inside begins there given lies (inl l) = subst (λ (n : ℕ). IsComplete 207 52 4 n j)
    (ap (λ (r : List (List ℤ)). length (bytes_in r)) (sym (take_all (left_from feed k end f) run (omega (arith, l))))
    ∙ length-bytes_there feed (f / 312) (take (left_from feed k end f) run) p there) given
complete_in feed k end f j run p inside begins there given lies (inr l) =
    grind (arith, left_from, length-take, sync_place, length-stretch_of, field_turn)

-- ---- the stretch is readable

pub readable : (feed : List (List ℕ)) (k end f n j : ℕ) (before after : List (List ℤ)) → ArePackets feed
    → end ≤ length feed → BeginsField k end f
    → IsComplete 207 52 4 (length (bytes_in (segments_in (before ++ (stretch_of feed k end ++ after))
    (length before + to_field k f, n)))) j
    → ((i : ℕ) → i < 207 → f + 4 * (codeword_byte_place 52 4 (207 * j + i) / 828) + 3 ≤ last_packet end)
    → CanBeGivenBack feed end f (segments_in (before ++ (stretch_of feed k end ++ after))
    (length before + to_field k f, n)) j
readable feed k end f n j before after p inside begins given lies =
    let run : List (List ℤ) =
    segments_in (before ++ (stretch_of feed k end ++ after)) (length before + to_field k f, n) in
    let m : ℕ = left_from feed k end f in
    let there : IsThere feed (f / 312) (take m run) =
    part_there feed k end f n before after begins (some_segments run j given) (grind (arith, length-stretch_of)) in
    let c = complete_in feed k end f j run p inside begins there given lies (cases_lt (length run) m) in
    record {
      given = given;
      inside = lies;
      near = subst (λ (g : ℕ). IsNear feed (g + j) (word_of run j)) (field_turn f begins.begins)
          (front_near feed (f / 312) m j run p there c);
    }
