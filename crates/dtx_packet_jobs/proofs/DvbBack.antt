-- What `dvb code` and `dvb read` mean over files, and what comes back of a stream.
use Rattle.std.proofs.Common.{◌≡◌, ℕ, zero, suc, ◌+◌, ◌-◌, ◌*◌, ◌/◌, ◌%◌, ◌<◌, ◌≤◌, Bool, List, [], ◌∷◌, ◌++◌, length}
use Rattle.std.proofs.Common.{map, take, drop, refl, sym, ap, ◌∙◌, arith}
use Rattle.std.specs.Prelude.{true, false, not, min, Some, None}
use Rattle.std.specs.List.{find, flat_map, range_with_len}
use Rattle.std.proofs.lemmas.Bool.{cond-false}
use Rattle.std.proofs.lemmas.List.{append-nil, length-drop, length-take-le, take-append-drop, take_all, take_at}
use Rattle.dtx_lists.proofs.RangeSearch.{find-range_first}
use Rattle.dtx_packets.proofs.PacketLemmas.{packets_of-piece}
use Rattle.dtx_packets.specs.Packets.{packet_at, packets_from, packets_of, whole_packets}
use Rattle.dtx_dvb.proofs.BackLemmas.{all_as_sent, all_fixed, none_flagged, packets_back, undamaged}
use Rattle.dtx_dvb.specs.Damage.{ArePackets, IsSlight, as_sent}
use Rattle.dtx_dvb.specs.Read.{Read, fixed_in}
use Rattle.dtx_dvb.specs.Reading.{read_dvb}
use Rattle.dtx_dvb.proofs.ReadingLemmas.{length-read, next_of, read_loose, read_more}
use Rattle.dtx_dvb.specs.Stream.{dvb}
use Rattle.dtx_meaning.specs.Meaning.{Meaning}
use Rattle.dtx_meaning.specs.Status.{done, ended}
use Rattle.dtx_meaning.specs.declared.status.Status.{Status}
use Rattle.dtx_meaning.specs.declared.status.Status.TheVariants.{Packet, TooLong}
use Rattle.dtx_engine.specs.Made.{only, outputs_of}
use Rattle.dtx_engine.specs.Recipe.{course, course_from, first_refused, meaning_at, meaning_of_file}
use Rattle.dtx_engine.specs.declared.piece.Ending.TheVariants.{Refused}
use Rattle.dtx_forms.proofs.AllowedFileLemmas.{all_read, first_read, none_found}
use Rattle.dtx_recipes.specs.DvbBack.{HaveSyncs, back_of, read_of, read_until, sent_of, sent_until, wrong_in_all}
use Rattle.dtx_recipes.specs.DvbCode.{dvb_coding, blocks, dvb_packets}
use Rattle.dtx_recipes.specs.DvbRead.{bytes_of_reads, dvb_reading, whole_blocks}
use Rattle.dtx_forms.proofs.FilePacketsLemmas.{length-packets_of, front_of, packets_are}
use Rattle.dtx_recipes.specs.Place.{has_sync}
use Rattle.dtx_packet_jobs.proofs.DvbChunks.{chunks_flat}

-- ---- what is sent

-- where all pass, none is refused
none_refused : (p : ℕ → Bool) (a n : ℕ) → ((k : ℕ) → a ≤ k → k < a + n → p k ≡ true)
    → find (λ k. not (p k)) (range_with_len a n) ≡ None
none_refused p a zero all = refl
none_refused p a (suc n) all = cond-false _ _ _ (ap not (all a (omega arith) (omega arith)))
    ∙ none_refused p (a + 1) n (λ k l m. all k (omega (arith, l)) (omega (arith, m)))

all_begin : (stream : List ℕ) (n : ℕ) → min (whole_packets stream) 624000000 ≤ n → HaveSyncs stream n
    → first_refused dvb_packets dvb_coding stream ≡ None
unfolding first_refused
all_begin stream n most syncs =
    none_refused (λ k. has_sync k (packet_at stream k)) 0 (min (whole_packets stream) dvb_packets.limit)
    (λ k l m. syncs k (omega (arith, m, most)))

-- the first packets of a stream
first_packets : (stream : List ℕ) (k : ℕ) → k ≤ whole_packets stream
    → packets_of (take (188 * k) stream) ≡ packets_from stream 0 k
first_packets stream k within = packets_of-piece stream 0 k (omega (arith, within))

pub all_sent : (names : List (List ℕ)) (stream : List ℕ) → whole_packets stream ≤ 624000000
    → HaveSyncs stream (whole_packets stream)
    → meaning_of_file dvb_packets dvb_coding names stream ≡ sent_of names stream
all_sent names stream few syncs = grind (arith, length-take-le, all_read, all_begin, append-nil, first_packets)

-- where the input ends behind the first packets
cut_sent : (names : List (List ℕ)) (stream : List ℕ) (k : ℕ) (refusal : Status) → k ≤ whole_packets stream
    → meaning_at dvb_coding names (take (188 * k) stream) (Refused refusal) ≡ sent_until names stream k refusal
cut_sent names stream k refusal within = grind (arith, first_packets, front_of)

pub refused_sent : (names : List (List ℕ)) (stream : List ℕ) (k : ℕ) → k < whole_packets stream → k < 624000000
    → HaveSyncs stream k → has_sync k (packet_at stream k) ≡ false
    → meaning_of_file dvb_packets dvb_coding names stream ≡ sent_until names stream k (Packet k)
unfolding first_refused
refused_sent names stream k within few syncs other =
    let first : first_refused dvb_packets dvb_coding stream ≡ Some k =
    find-range_first (λ i. not (has_sync i (packet_at stream i))) 0 (min (whole_packets stream) dvb_packets.limit) k
    (omega arith) (omega (arith, within, few)) (ap not other) (λ i l m. ap not (syncs i m)) in
    let is : course dvb_packets dvb_coding stream ≡ record { taken = k / 1 * 1; ending = Refused (Packet k) } =
    ap (course_from dvb_packets stream) first in
    let taken : k / 1 * 1 ≡ k = omega arith in
    grind arith ∙ cut_sent names stream k (Packet k) (omega (arith, within))

pub too_many_sent : (names : List (List ℕ)) (stream : List ℕ) → 624000000 < whole_packets stream
    → HaveSyncs stream 624000000
    → meaning_of_file dvb_packets dvb_coding names stream ≡ sent_until names stream 624000000 TooLong
too_many_sent names stream many syncs = first_read dvb_packets dvb_coding names stream (grind (arith, all_begin)) many
    ∙ cut_sent names stream 624000000 TooLong (omega (arith, many))

-- ---- what is read

all_allowed : (bytes : List ℕ) → first_refused blocks dvb_reading bytes ≡ None
unfolding first_refused
all_allowed bytes = none_found (range_with_len 0 (min (whole_blocks bytes) blocks.limit))

-- only the whole blocks count
blocks_read : (bytes : List ℕ) → read_dvb (take (204 * whole_blocks bytes) bytes) ≡ read_dvb bytes
blocks_read bytes =
    let s : ℕ = whole_blocks bytes in
    sym (read_loose (take (204 * s) bytes) (drop (204 * s) bytes) s (length-take-le (204 * s) bytes (omega arith))
    (omega (arith, length-drop (204 * s) bytes))) ∙ ap read_dvb (take-append-drop (204 * s) bytes)

pub blocks_all_read : (names : List (List ℕ)) (bytes : List ℕ) → whole_blocks bytes ≤ 624000000
    → meaning_of_file blocks dvb_reading names bytes ≡ read_of names bytes
blocks_all_read names bytes few = grind (arith, length-take-le, all_read, all_allowed, append-nil, blocks_read)

-- what the first blocks give are the first of all packets
first_blocks : (bytes : List ℕ) (n : ℕ) → n ≤ whole_blocks bytes
    → read_dvb (take (204 * n) bytes) ≡ take (n - 11) (read_dvb bytes)
first_blocks bytes n within =
    let front : List ℕ = take (204 * n) bytes in
    let rest : List ℕ = drop (204 * n) bytes in
    let m : ℕ = whole_blocks bytes - n in
    let long : length front ≡ 204 * n = length-take-le (204 * n) bytes (omega (arith, within)) in
    let all : front ++ rest ≡ bytes = take-append-drop (204 * n) bytes in
    let is : read_dvb (front ++ rest) ≡ read_dvb front ++ next_of (front ++ rest) n m =
    read_more front rest n m (omega (arith, long)) (omega (arith, within, ap length all)) in
    sym (grind (arith, take_at, next_of, length-read))

pub too_many : (names : List (List ℕ)) (bytes : List ℕ) → 624000000 < whole_blocks bytes
    → meaning_of_file blocks dvb_reading names bytes ≡ read_until names bytes
too_many names bytes many = first_read blocks dvb_reading names bytes (all_allowed bytes) many
    ∙ ap (λ reads. record { outcome = ended TooLong; outputs = outputs_of names (only (bytes_of_reads reads)) })
    (first_blocks bytes 624000000 (omega (arith, many)))

-- ---- what comes back

flat_reads : (reads : List Read)
    → bytes_of_reads reads ≡ flat_map (λ (p : List ℕ). p) (map (λ (r : Read). r.packet) reads)
flat_reads [] = refl
flat_reads (r ∷ rs) = ap (λ z. r.packet ++ z) (flat_reads rs)

-- the bytes of the first packets of a stream are its first bytes
first_bytes : (stream : List ℕ) (m : ℕ) → m ≤ whole_packets stream
    → flat_map (λ (p : List ℕ). p) (take m (packets_of stream)) ≡ take (188 * m) stream
first_bytes stream m within =
    let front : List ℕ = take (188 * m) stream in
    let long : length front ≡ 188 * m = length-take-le (188 * m) stream (omega (arith, within)) in
    ap (flat_map (λ (p : List ℕ). p))
    (front_of stream m within ∙ sym (first_packets stream m within) ∙ sym (packets_are front))
    ∙ chunks_flat 188 (length front / 188) front
    ∙ take_all (length front / 188 * 188) front (omega (arith, long))

pub comes_back : (names : List (List ℕ)) (stream bytes : List ℕ) → whole_packets stream ≤ 624000000
    → ArePackets (packets_of stream) → IsSlight (packets_of stream) bytes
    → meaning_of_file blocks dvb_reading names bytes ≡ back_of names stream (wrong_in_all (packets_of stream) bytes)
comes_back names stream bytes few packets slight =
    let ps = packets_of stream in
    let n : ℕ = whole_packets stream in
    let reads : List Read = read_dvb bytes in
    let many : length ps ≡ n = length-packets_of stream in
    let count : whole_blocks bytes ≡ n = omega (arith, slight.as_many, many) in
    let read : length reads ≡ n - 11 = omega (arith, length-read bytes, count) in
    let loose : length bytes % 204 ≡ 0 = omega (arith, slight.as_many) in
    let written : bytes_of_reads reads ≡ take (188 * (n - 11)) stream = flat_reads reads
    ∙ ap (flat_map (λ (p : List ℕ). p)) (packets_back ps bytes packets slight ∙ ap (λ (m : ℕ). take (m - 11) ps) many)
    ∙ first_bytes stream (n - 11) (omega arith) in
    let means : ℕ → ℕ → ℕ → ℕ → ℕ → List ℕ → Meaning = λ b p f g l made. record {
      outcome = done (b ∷ p ∷ f ∷ g ∷ l ∷ []);
      outputs = outputs_of names (only made);
    } in
    blocks_all_read names bytes (omega (arith, count, few)) ∙ grind (arith, all_fixed, none_flagged)

none_fixed : (packets : List (List ℕ)) → fixed_in (map as_sent packets) ≡ 0
unfolding fixed_in
none_fixed [] = refl
none_fixed (p ∷ ps) = none_fixed ps

pub sent_comes_back : (names : List (List ℕ)) (stream : List ℕ) → whole_packets stream ≤ 624000000
    → ArePackets (packets_of stream)
    → meaning_of_file blocks dvb_reading names (dvb (packets_of stream)) ≡ back_of names stream 0
sent_comes_back names stream few packets = grind (arith, comes_back, undamaged, all_fixed, all_as_sent, none_fixed)
