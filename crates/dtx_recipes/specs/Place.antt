-- What `place IN OUT` makes of a stream: null packets become placeholders, at most one in each field (the profile's
-- own). Packets are counted from 0, and 312 make a field.
use Rattle.std.specs.Prelude.{ℕ, ◌+◌, ◌-◌, ◌*◌, ◌/◌, ◌%◌, Bool, ◌==◌, ◌&&◌, ◌||◌, not, nat_le, if◌then◌else◌}
use Rattle.std.specs.Prelude.{List, [], ◌∷◌, length, map, take, drop, slice_index, slice_index_or, slice_set, count_by}
use Rattle.std.specs.List.{list_any, range_with_len}
use Rattle.dtx_adapter.specs.Feed.{is_placeholder}
use Rattle.dtx_engine.specs.Recipe.{each_making, Recipe}
use Rattle.dtx_meaning.specs.Status.{done}
use Rattle.dtx_meaning.specs.declared.status.Outcome.{Outcome}
use Rattle.dtx_packets.specs.Packets.{pid_of, sync_of, packets_of}
use Rattle.dtx_words.specs.declared.rows.Command.TheVariants.{Place}
use Rattle.dtx_forms.specs.Job.{Job}
use Rattle.dtx_forms.specs.Shapes.{single_packets}
use Rattle.dtx_forms.specs.Transform.{transform_job}

-- a null packet has the packet identifier 0x1FFF (ISO/IEC 13818-1, 2.4.1)
abbrev pub is_null : List ℕ → Bool
is_null packet = pid_of packet == 0x1FFF

-- a packet in whose place a placeholder may stand: a null packet, or a placeholder already
unfoldable pub is_open : List ℕ → Bool
is_open packet = is_null packet || is_placeholder packet

-- the packets of field f from its place 52 on, as far as the stream goes
abbrev pub behind : List (List ℕ) → ℕ → List (List ℕ)
behind packets f = take 260 (drop (312 * f + 52) packets)

-- Whether a packet becomes a placeholder; `before` are the packets before it. It does where it is a null packet at
-- place 52 of its field or behind, and no packet before it, from place 52 on, is a null packet or a placeholder.
unfoldable pub becomes : List (List ℕ) → List ℕ → Bool
becomes before packet = is_null packet
    && (nat_le 52 (length before % 312) && not (list_any is_open (behind before (length before / 312))))

-- a null packet with the packet identifier 0x1FFA, which is less by five; its other bits stay
unfoldable pub as_placeholder : List ℕ → List ℕ
as_placeholder packet = slice_set packet 2 (slice_index packet 2 - 5)

-- what a packet becomes; `before` are the packets before it
abbrev pub placed_one : List (List ℕ) → List ℕ → List ℕ
placed_one before packet = if becomes before packet then as_placeholder packet else packet

-- what a stream becomes, packet by packet
unfoldable pub placed : List (List ℕ) → List (List ℕ)
placed packets =
    map (λ k. placed_one (take k packets) (slice_index_or packets k [])) (range_with_len 0 (length packets))

-- ---- the numbers

-- which of the packets become placeholders, and how many they are
abbrev pub becoming : List (List ℕ) → List Bool
becoming packets = map (λ k. becomes (take k packets) (slice_index_or packets k [])) (range_with_len 0 (length packets))

unfoldable pub placed_count : List (List ℕ) → ℕ
placed_count packets = count_by (λ changed. changed) (becoming packets)

-- how many fields a stream has; the last one may be incomplete
abbrev pub fields : List (List ℕ) → ℕ
fields packets = (length packets + 311) / 312

-- how many of its fields have no placeholder at place 52 or behind
unfoldable pub bare_fields : List (List ℕ) → ℕ
bare_fields packets =
    count_by (λ rest. not (list_any is_placeholder rest)) (map (behind packets) (range_with_len 0 (fields packets)))

-- the answer: the number of packets, of those that became placeholders, of fields left without a placeholder at place
-- 52 or behind, and of loose bytes
abbrev pub place_answer : List (List ℕ) → ℕ → Outcome
place_answer packets loose = done (length packets ∷ placed_count packets ∷ bare_fields (placed packets) ∷ loose ∷ [])

-- ---- the meaning

-- a packet begins with 0x47 (ISO/IEC 13818-1, 2.4.3.2)
abbrev pub has_sync : ℕ → List ℕ → Bool
has_sync k packet = sync_of packet == 0x47

-- what a packet becomes; `given` are the bytes before it
abbrev pub placed_behind : List ℕ → List ℕ → List ℕ
placed_behind given packet = placed_one (packets_of given) packet

abbrev pub placing_answer : List ℕ → ℕ → Outcome
placing_answer given loose = place_answer (packets_of given) loose

abbrev pub placing : Recipe
placing = each_making single_packets has_sync placed_behind placing_answer

-- the command `place IN OUT`
abbrev pub place_job : Job
place_job = transform_job Place single_packets placing
