-- Packets that are interleaved at once and sent group by group.
use Rattle.std.proofs.Common.{◌≡◌, ◌≤◌, ◌↔◌, ◌==◌, nat_le, IsTrue, Bool, true, false, ℕ, ◌+◌, ◌-◌, ◌*◌, ◌%◌, ℤ, List}
use Rattle.std.proofs.Common.{[], ◌∷◌, ◌++◌, length, take, drop, refl, sym, ap, ap₂, ◌∙◌, subst, arith}
use Rattle.std.proofs.Math.Seq.{take-add}
use Rattle.std.proofs.lemmas.Bool.{leb-true, le-leb, eqb-true, eq-eqb}
use Rattle.std.proofs.lemmas.Grind.{flat_map-append}
use Rattle.std.proofs.lemmas.List.{drop_at, take-append-drop, take_at, length-append, length-take-le, append_assoc}
use Rattle.std.proofs.lemmas.List.{append-nil, drop-drop, drop_all, take_all, length-drop}
use Rattle.std.proofs.lemmas.List.FromFn.{length-map-range_with_len}
use Rattle.dtx_laws.specs.Branches.{Branching, leaving_all, after_all}
use Rattle.dtx_laws.proofs.PlacesLemmas.{leaving_append, after_append, length_leaving}
use Rattle.dtx_sizes.specs.Fields.{field_place}
use Rattle.dtx_sizes.specs.declared.fields.FieldPlace.{FieldPlace}
use Rattle.dtx_trellis.specs.Groups.{levels_of, states_after}
use Rattle.dtx_trellis.specs.Trellis.{group_place}
use Rattle.dtx_coder.specs.Stream.{coded_from, segment, four_segments, symbols_of, a53, a53_symbols}
use Rattle.dtx_coder.specs.Groups.{Coding, Group, IsCoded, StandsFor, sent_segments, bytes_of, group_levels}
use Rattle.dtx_coder.specs.Groups.{air_segments, after_group, stream_coding, IsNextGroup}
use Rattle.dtx_coder.specs.Batches.{InterleavedGroup, IsSent, IsAhead, AreInterleaved, interleaved_as, after_bytes}
use Rattle.dtx_coder.specs.Batches.{segments_of_bytes, segments_by_bytes, after_all_bytes}
use Rattle.dtx_coder.specs.Runs.{AreInTurn, after_groups, segments_of_groups, group_packets}
use Rattle.dtx_coder.proofs.BytesLemmas.{coded_append, coded_place, length-coded}
use Rattle.dtx_coder.proofs.NextLemmas.{same_coding, next_stands, next_segments}
use Rattle.dtx_coder.proofs.RunsLemmas.{length-bytes_of}

-- ---- a group that was interleaved alone

pub sent_coded : (old : Coding) (g : Group) (bytes : List ℕ) (branches : Branching) (new : Coding) (count : ℕ)
    (sent : List ℤ) → bytes ≡ bytes_of old g → branches ≡ after_all 52 old.branches (coded_from g.first g.packets)
    → IsSent (record { states = old.states; last = old.last; branches = branches }) (interleaved_as bytes g) new count
    sent → IsCoded old g new count sent
unfolding after_group air_segments group_levels after_bytes segments_of_bytes
sent_coded old g bytes branches new count sent e f s = grind (arith, same_coding)

-- ---- the first group of those that were interleaved

joined : (g : Group) (rest : List (List ℕ)) → length g.packets ≡ 4
    → coded_from g.first (g.packets ++ rest) ≡ coded_from g.first g.packets ++ coded_from (g.first + 4) rest
joined g rest four = grind (arith, coded_append)

-- what left is what leaves for the first group, and then for the others
parts : (held ahead : Coding) (g : Group) (rest : List (List ℕ)) (all : List ℕ)
    → IsAhead held g.first (g.packets ++ rest) all ahead → length g.packets ≡ 4
    → all ≡ bytes_of held g ++ leaving_all 52 (after_group held g).branches (coded_from (g.first + 4) rest)
unfolding bytes_of after_group
parts held ahead g rest all h four = grind (arith, joined, leaving_append)

own_bytes : (held ahead : Coding) (g : Group) (rest : List (List ℕ)) (bytes left : List ℕ)
    → IsAhead held g.first (g.packets ++ rest) (bytes ++ left) ahead → length g.packets ≡ 4 → length bytes ≡ 828
    → bytes ≡ bytes_of held g
own_bytes held ahead g rest bytes left h four long =
    sym (take_at bytes left 828 long) ∙ ap (take 828) (parts held ahead g rest (bytes ++ left) h four)
    ∙ take_at (bytes_of held g) (leaving_all 52 (after_group held g).branches (coded_from (g.first + 4) rest)) 828
    (length-bytes_of held g four)

left_bytes : (held ahead : Coding) (g : Group) (rest : List (List ℕ)) (bytes left : List ℕ)
    → IsAhead held g.first (g.packets ++ rest) (bytes ++ left) ahead → length g.packets ≡ 4 → length bytes ≡ 828
    → left ≡ leaving_all 52 (after_group held g).branches (coded_from (g.first + 4) rest)
left_bytes held ahead g rest bytes left h four long =
    sym (drop_at bytes left 828 long) ∙ ap (drop 828) (parts held ahead g rest (bytes ++ left) h four)
    ∙ drop_at (bytes_of held g) (leaving_all 52 (after_group held g).branches (coded_from (g.first + 4) rest)) 828
    (length-bytes_of held g four)

branches_on : (held ahead : Coding) (g : Group) (rest : List (List ℕ)) (all : List ℕ)
    → IsAhead held g.first (g.packets ++ rest) all ahead → length g.packets ≡ 4
    → ahead.branches ≡ after_all 52 (after_group held g).branches (coded_from (g.first + 4) rest)
unfolding after_group
branches_on held ahead g rest all h four = grind (arith, joined, after_append)

last_same : (held ahead : Coding) (first : ℕ) (packets : List (List ℕ)) (bytes : List ℕ)
    → IsAhead held first packets bytes ahead → ahead.last ≡ held.last
last_same held ahead first packets bytes h = ap (λ (c : Coding). c.last) h.coder

segments_same : (held ahead : Coding) (g : Group) (rest : List (List ℕ)) (bytes left : List ℕ)
    → IsAhead held g.first (g.packets ++ rest) (bytes ++ left) ahead → length g.packets ≡ 4 → length bytes ≡ 828
    → segments_of_bytes ahead.last (interleaved_as bytes g) ≡ air_segments held g
unfolding air_segments group_levels segments_of_bytes
segments_same held ahead g rest bytes left h four long =
    ap₂ (λ l y. sent_segments l g.sync g.second (levels_of g.first g.from y)) (grind (arith, last_same))
    (own_bytes held ahead g rest bytes left h four long)

pub ahead_coded : (held ahead new : Coding) (g : Group) (rest : List (List ℕ)) (bytes left : List ℕ) (count : ℕ)
    (sent : List ℤ) → IsAhead held g.first (g.packets ++ rest) (bytes ++ left) ahead
    → length g.packets ≡ 4 → length bytes ≡ 828 → IsSent ahead (interleaved_as bytes g) new count sent
    → IsCoded held g (after_group held g) count sent
ahead_coded held ahead new g rest bytes left count sent h four long s = grind (arith, segments_same)

coder_on : (held ahead : Coding) (g : Group) (rest : List (List ℕ)) (bytes left : List ℕ)
    → IsAhead held g.first (g.packets ++ rest) (bytes ++ left) ahead → length g.packets ≡ 4 → length bytes ≡ 828
    → after_bytes ahead (interleaved_as bytes g) ≡ record {
      states = (after_group held g).states;
      last = (after_group held g).last;
      branches = after_all 52 (after_group held g).branches (coded_from (g.first + 4) rest);
    }
unfolding after_group group_levels after_bytes
coder_on held ahead g rest bytes left h four long =
    let own : bytes ≡ bytes_of held g = own_bytes held ahead g rest bytes left h four long in
    same_coding _ _ _ _ ahead.branches _ (ap (states_after g.first g.from) own) (grind arith)
    (branches_on held ahead g rest (bytes ++ left) h four)

after_ahead : (held ahead : Coding) (g : Group) (rest : List (List ℕ)) (bytes left : List ℕ)
    → IsAhead held g.first (g.packets ++ rest) (bytes ++ left) ahead → length g.packets ≡ 4 → length bytes ≡ 828
    → IsAhead (after_group held g) (g.first + 4) rest left (after_bytes ahead (interleaved_as bytes g))
after_ahead held ahead g rest bytes left h four long = record {
  left = left_bytes held ahead g rest bytes left h four long;
  coder = coder_on held ahead g rest bytes left h four long;
}

pub ahead_on : (held ahead new : Coding) (g : Group) (rest : List (List ℕ)) (bytes left : List ℕ) (count : ℕ)
    (sent : List ℤ) → IsAhead held g.first (g.packets ++ rest) (bytes ++ left) ahead
    → length g.packets ≡ 4 → length bytes ≡ 828 → IsSent ahead (interleaved_as bytes g) new count sent
    → IsAhead (after_group held g) (g.first + 4) rest left new
ahead_on held ahead new g rest bytes left count sent h four long s = record {
  left = left_bytes held ahead g rest bytes left h four long;
  coder = s.coder ∙ coder_on held ahead g rest bytes left h four long;
}

none : (first : ℕ) (v : Branching) → after_all 52 v (coded_from first []) ≡ v
unfolding coded_from after_all
none first v = refl

-- when all are sent
pub ahead_all : (held ahead : Coding) (first : ℕ) (bytes : List ℕ) → IsAhead held first [] bytes ahead → ahead ≡ held
ahead_all held ahead first bytes h = grind (arith, same_coding, none)

pub ahead_place : (held ahead : Coding) (j k : ℕ) (packets : List (List ℕ)) (bytes : List ℕ) → j % 312 ≡ k % 312
    → IsAhead held j packets bytes ahead → IsAhead held k packets bytes ahead
ahead_place held ahead j k packets bytes e h = grind (arith, coded_place)

-- ---- all groups of those that were interleaved

first_ahead : (held ahead : Coding) (g : Group) (s : ℕ) (rest : List (List ℕ)) (bytes : List ℕ) → g.first ≡ s
    → IsAhead held s (g.packets ++ rest) bytes ahead → IsAhead held g.first (g.packets ++ rest) bytes ahead
first_ahead held ahead g s rest bytes e h = subst (λ (k : ℕ). IsAhead held k (g.packets ++ rest) bytes ahead) (sym e) h

whole : (held ahead : Coding) (g : Group) (rest : List (List ℕ)) (bytes : List ℕ)
    → IsAhead held g.first (g.packets ++ rest) bytes ahead
    → IsAhead held g.first (g.packets ++ rest) (take 828 bytes ++ drop 828 bytes) ahead
whole held ahead g rest bytes h =
    subst (λ (y : List ℕ). IsAhead held g.first (g.packets ++ rest) y ahead) (sym (take-append-drop 828 bytes)) h

-- the bytes of the first one
own_long : (held ahead : Coding) (g : Group) (rest : List (List ℕ)) (bytes : List ℕ)
    → IsAhead held g.first (g.packets ++ rest) bytes ahead → length g.packets ≡ 4 → length (take 828 bytes) ≡ 828
own_long held ahead g rest bytes h four = length-take-le 828 bytes
    (grind (arith, length_leaving, length-coded, length-append))

-- the others, at their place of the field
rest_ahead : (held ahead : Coding) (g : Group) (s : ℕ) (rest : List (List ℕ)) (bytes : List ℕ) → g.first ≡ s
    → length g.packets ≡ 4 → IsAhead held s (g.packets ++ rest) bytes ahead
    → IsAhead (after_group held g) (group_place s 1) rest (drop 828 bytes)
    (after_bytes ahead (interleaved_as (take 828 bytes) g))
unfolding group_place
rest_ahead held ahead g s rest bytes e four h =
    ahead_place (after_group held g) (after_bytes ahead (interleaved_as (take 828 bytes) g)) (g.first + 4)
    ((s + 4 * 1) % 312) rest (drop 828 bytes) (omega (arith, e))
    (after_ahead held ahead g rest (take 828 bytes) (drop 828 bytes)
    (whole held ahead g rest bytes (first_ahead held ahead g s rest bytes e h)) four
    (own_long held ahead g rest bytes (first_ahead held ahead g s rest bytes e h) four))

pub segments_all : (held ahead : Coding) (s : ℕ) (gs : List Group) (bytes : List ℕ) → AreInTurn s gs
    → IsAhead held s (group_packets gs) bytes ahead → segments_by_bytes ahead gs bytes ≡ segments_of_groups held gs
unfolding AreInTurn segments_by_bytes segments_of_groups
segments_all held ahead s [] bytes t h = refl
segments_all held ahead s (g ∷ gs) bytes t h =
    let first : IsAhead held g.first (g.packets ++ (group_packets gs)) bytes ahead = first_ahead held ahead g s
    (group_packets gs) bytes t.0 h in
    ap₂ ◌++◌ (segments_same held ahead g (group_packets gs) (take 828 bytes) (drop 828 bytes)
    (whole held ahead g (group_packets gs) bytes first) t.1 (own_long held ahead g (group_packets gs) bytes first t.1))
    (segments_all (after_group held g) (after_bytes ahead (interleaved_as (take 828 bytes) g)) (group_place s 1) gs
    (drop 828 bytes) t.2 (rest_ahead held ahead g s (group_packets gs) bytes t.0 t.1 h))

pub coder_all : (held ahead : Coding) (s : ℕ) (gs : List Group) (bytes : List ℕ) → AreInTurn s gs
    → IsAhead held s (group_packets gs) bytes ahead → after_all_bytes ahead gs bytes ≡ after_groups held gs
unfolding AreInTurn after_all_bytes after_groups
coder_all held ahead s [] bytes t h = ahead_all held ahead s bytes h
coder_all held ahead s (g ∷ gs) bytes t h =
    coder_all (after_group held g) (after_bytes ahead (interleaved_as (take 828 bytes) g)) (group_place s 1) gs
    (drop 828 bytes) t.2 (rest_ahead held ahead g s (group_packets gs) bytes t.0 t.1 h)

-- ---- a stream

-- the next group's states are those that the stream's coder has
next_of : (packets : List (List ℕ)) (first : ℕ) (all : List (List ℕ)) (bytes : List ℕ) (ahead : Coding) (g : Group)
    → IsAhead (stream_coding packets) first all bytes ahead → IsNextGroup packets ahead.states g
    → IsNextGroup packets (stream_coding packets).states g
next_of packets first all bytes ahead g h n = grind arith

-- at the group's place of its field
at_place : (packets : List (List ℕ)) (all : List (List ℕ)) (bytes : List ℕ) (ahead : Coding) (g : Group)
    → IsAhead (stream_coding packets) (length packets) all bytes ahead → IsNextGroup packets ahead.states g
    → IsAhead (stream_coding packets) g.first all bytes ahead
at_place packets all bytes ahead g h n =
    let place = n.place in
    ahead_place (stream_coding packets) ahead (length packets) g.first all bytes (omega (arith, place)) h

pub stream_coded : (packets rest : List (List ℕ)) (ahead new : Coding) (g : Group) (bytes left : List ℕ) (count : ℕ)
    (sent : List ℤ) → IsAhead (stream_coding packets) (length packets) (g.packets ++ rest) (bytes ++ left) ahead
    → IsNextGroup packets ahead.states g → length bytes ≡ 828 → IsSent ahead (interleaved_as bytes g) new count sent
    → IsCoded (stream_coding packets) g (stream_coding (packets ++ g.packets)) count sent
stream_coded packets rest ahead new g bytes left count sent h n long s =
    subst (λ (c : Coding). IsCoded (stream_coding packets) g c count sent) (grind (arith, next_stands, next_of))
    (ahead_coded (stream_coding packets) ahead new g rest bytes left count sent
    (at_place packets (g.packets ++ rest) (bytes ++ left) ahead g h n) n.four long s)

pub stream_on : (packets rest : List (List ℕ)) (ahead new : Coding) (g : Group) (bytes left : List ℕ) (count : ℕ)
    (sent : List ℤ) → IsAhead (stream_coding packets) (length packets) (g.packets ++ rest) (bytes ++ left) ahead
    → IsNextGroup packets ahead.states g → length bytes ≡ 828 → IsSent ahead (interleaved_as bytes g) new count sent
    → IsAhead (stream_coding (packets ++ g.packets)) (length (packets ++ g.packets)) rest left new
stream_on packets rest ahead new g bytes left count sent h n long s =
    let place = n.place in
    let four = n.four in
    let all = length-append packets g.packets in
    ahead_place (stream_coding (packets ++ g.packets)) new (g.first + 4) (length (packets ++ g.packets)) rest left
    (omega (arith, place, four, all)) (subst (λ (c : Coding). IsAhead c (g.first + 4) rest left new)
    (grind (arith, next_stands, next_of)) (ahead_on (stream_coding packets) ahead new g rest bytes left count sent
    (at_place packets (g.packets ++ rest) (bytes ++ left) ahead g h n) n.four long s))

-- ---- a batch

second_is : (place : ℕ) → IsTrue (nat_le 312 place) ↔ (312 ≤ place)
second_is place = (leb-true 312 place, le-leb 312 place)

-- the group behind some packets
next_group : (packets : List (List ℕ)) (from : List ℕ) (at : FieldPlace) (own : List (List ℕ))
    → length packets % 4 ≡ 0 → length own ≡ 4 → at ≡ field_place (length packets) → IsNextGroup packets from
    (record { first = at.place; second = at.second; sync = at.place == 0; from = from; packets = own })
next_group packets from at own whole four is = grind (arith, whole, second_is, eqb-true, eq-eqb)

-- Group i of the batch is sent as these bytes, by a coder that has sent those before it.
pub record SendsNext (before packets : List (List ℕ)) (batch : List ℕ) (i : ℕ) (at : FieldPlace) (bytes : List ℕ)
    (ahead new : Coding) (count : ℕ) (sent : List ℤ) : Type 0 where
  pub place : at ≡ field_place (length before + 4 * i)
  pub whole : (length before + 4 * i) % 4 ≡ 0
  pub within : 4 * i + 4 ≤ length packets
  pub room : 828 * i + 828 ≤ length batch
  pub bytes_are : bytes ≡ take 828 (drop (828 * i) batch)
  pub interleaved : AreInterleaved ahead batch before packets i
  pub group : IsSent ahead (record {
    first = at.place;
    second = at.second;
    sync = at.place == 0;
    from = ahead.states;
    bytes = bytes;
  }) new count sent

next_four : (i : ℕ) → 4 * i + 4 ≡ 4 * (i + 1)
next_four i = omega arith

next_bytes : (i : ℕ) → 828 * i + 828 ≡ 828 * (i + 1)
next_bytes i = omega arith

-- its packets stand behind those before
four_on : (before packets : List (List ℕ)) (i : ℕ)
    → (before ++ take (4 * i) packets) ++ take 4 (drop (4 * i) packets) ≡ before ++ take (4 * (i + 1)) packets
four_on before packets i = simp (append_assoc, ← take-add, next_four)

four_left : (packets : List (List ℕ)) (i : ℕ)
    → drop (4 * i) packets ≡ take 4 (drop (4 * i) packets) ++ drop (4 * (i + 1)) packets
four_left packets i = sym (take-append-drop 4 (drop (4 * i) packets))
    ∙ ap (λ z. take 4 (drop (4 * i) packets) ++ z) (rw (drop-drop 4 (4 * i) packets, next_four i))

-- and its bytes before those of the others
bytes_left : (batch : List ℕ) (i n : ℕ) → 4 * i + 4 ≤ n → take (207 * (n - 4 * i)) (drop (828 * i) batch)
    ≡ take 828 (drop (828 * i) batch) ++ take (207 * (n - 4 * (i + 1))) (drop (828 * (i + 1)) batch)
bytes_left batch i n within = ap (λ m. take m (drop (828 * i) batch)) (grind arith)
    ∙ take-add 828 (207 * (n - 4 * (i + 1))) (drop (828 * i) batch)
    ∙ ap (λ y. take 828 (drop (828 * i) batch) ++ take (207 * (n - 4 * (i + 1))) y) (drop-drop 828 (828 * i) batch
    ∙ ap (λ m. drop m batch) (next_bytes i))

-- What is known of the group before it is sent. `front` is what is sent before.
record IsNextOf (front own rest : List (List ℕ)) (at : FieldPlace) (bytes left : List ℕ) (ahead : Coding)
    : Type 0 where
  pub interleaved : IsAhead (stream_coding front) (length front) (own ++ rest) (bytes ++ left) ahead
  pub next : IsNextGroup front ahead.states
      (record { first = at.place; second = at.second; sync = at.place == 0; from = ahead.states; packets = own })
  pub long : length bytes ≡ 828

next_of_batch : (before packets : List (List ℕ)) (batch : List ℕ) (i : ℕ) (at : FieldPlace) (bytes : List ℕ)
    (ahead new : Coding) (count : ℕ) (sent : List ℤ) → SendsNext before packets batch i at bytes ahead new count sent
    → IsNextOf (before ++ take (4 * i) packets) (take 4 (drop (4 * i) packets)) (drop (4 * (i + 1)) packets) at bytes
    (take (207 * (length packets - 4 * (i + 1))) (drop (828 * (i + 1)) batch)) ahead
next_of_batch before packets batch i at bytes ahead new count sent s =
    let within = s.within in
    let front : List (List ℕ) = before ++ take (4 * i) packets in
    let many : length front ≡ length before + 4 * i = length-append before (take (4 * i) packets)
    ∙ ap (λ n. length before + n) (length-take-le (4 * i) packets (omega (arith, within))) in
    let left : List ℕ = take (207 * (length packets - 4 * (i + 1))) (drop (828 * (i + 1)) batch) in
    record {
      interleaved = grind (arith, four_left, bytes_left);
      next = next_group front ahead.states at (take 4 (drop (4 * i) packets)) (ap (λ n. n % 4) many ∙ s.whole)
          (length-take-le 4 (drop (4 * i) packets) (omega (arith, within, length-drop (4 * i) packets)))
          (s.place ∙ ap field_place (sym many));
      long = ap length s.bytes_are ∙ length-take-le 828 (drop (828 * i) batch)
          (let room = s.room in omega (arith, room, length-drop (828 * i) batch));
    }

pub batch_on : (before packets : List (List ℕ)) (batch : List ℕ) (i : ℕ) (at : FieldPlace) (bytes : List ℕ)
    (ahead new : Coding) (count : ℕ) (sent : List ℤ) → SendsNext before packets batch i at bytes ahead new count sent
    → AreInterleaved new batch before packets (i + 1)
batch_on before packets batch i at bytes ahead new count sent s =
    let n = next_of_batch before packets batch i at bytes ahead new count sent s in
    record {
      ahead = subst (λ ps. IsAhead (stream_coding ps) (length ps) (drop (4 * (i + 1)) packets)
          (take (207 * (length packets - 4 * (i + 1))) (drop (828 * (i + 1)) batch)) new) (four_on before packets i)
          (stream_on _ _ ahead new _ bytes _ count sent n.interleaved n.next n.long s.group);
    }

-- the segments of the group are those by which the stream is longer
pub batch_symbols : (before packets : List (List ℕ)) (batch : List ℕ) (i : ℕ) (at : FieldPlace) (bytes : List ℕ)
    (ahead new : Coding) (count : ℕ) (sent : List ℤ) → SendsNext before packets batch i at bytes ahead new count sent
    → a53_symbols (before ++ take (4 * (i + 1)) packets)
    ≡ a53_symbols (before ++ take (4 * i) packets) ++ take (832 * count) sent
unfolding a53_symbols
batch_symbols before packets batch i at bytes ahead new count sent s =
    let n = next_of_batch before packets batch i at bytes ahead new count sent s in
    let front : List (List ℕ) = before ++ take (4 * i) packets in
    let group : Group = record {
      first = at.place;
      second = at.second;
      sync = at.place == 0;
      from = ahead.states;
      packets = take 4 (drop (4 * i) packets);
    } in
    let is : IsCoded (stream_coding front) group _ count sent =
    stream_coded front _ ahead new group bytes _ count sent n.interleaved n.next n.long s.group in
    ap (λ ps. symbols_of (a53 ps)) (sym (four_on before packets i))
    ∙ ap symbols_of (next_segments (stream_coding front) front group refl
    (next_of front (length front) _ _ ahead group n.interleaved n.next)) ∙ grind (arith, flat_map-append)

-- the packets of a batch of which nothing is sent yet
pub batch_begun : (before packets : List (List ℕ)) (bytes rest : List ℕ) (place : ℕ) (old new : Coding)
    → old ≡ stream_coding before → place ≡ length before % 312 → IsAhead old place packets bytes new
    → AreInterleaved new (bytes ++ rest) before packets 0
batch_begun before packets bytes rest place old new stands at h = record {
  ahead = grind (arith, take_at, long, append-nil, placed);
}
  where
    long : length bytes ≡ 207 * length packets
    long = ap length h.left ∙ length_leaving 52 old.branches (coded_from place packets) ∙ length-coded place packets

    placed : IsAhead (stream_coding before) (length before) packets bytes new
    placed = ahead_place (stream_coding before) new place (length before) packets bytes (omega (arith, at))
        (subst (λ (v : Coding). IsAhead v place packets bytes new) stands h)

-- when all groups are sent, the coder stands for their packets too
pub batch_sent : (before packets : List (List ℕ)) (batch : List ℕ) (i : ℕ) (coder : Coding) → length packets ≤ 4 * i
    → AreInterleaved coder batch before packets i → StandsFor coder (before ++ packets)
batch_sent before packets batch i coder all h =
    let front : List (List ℕ) = before ++ take (4 * i) packets in
    let left : List ℕ = take (207 * (length packets - 4 * i)) (drop (828 * i) batch) in
    ahead_all (stream_coding front) coder (length front) left (grind (arith, drop_all))
    ∙ ap (λ ps. stream_coding (before ++ ps)) (take_all (4 * i) packets all)

length_segments : (sync : Bool) (last : List ℤ) (second : Bool) (zs : List ℕ)
    → length (sent_segments last sync second zs) ≤ 5
unfolding four_segments
length_segments true last second zs = omega (arith, length-map-range_with_len (segment zs) 0 4)
length_segments false last second zs = omega (arith, length-map-range_with_len (segment zs) 0 4)

-- a group has at most five segments
pub few_sent : (coder new : Coding) (group : InterleavedGroup) (count : ℕ) (sent : List ℤ)
    → IsSent coder group new count sent → count ≤ 5
unfolding segments_of_bytes
few_sent coder new group count sent is = grind (arith, length_segments)
