-- Packets that are interleaved at once, and sent group by group (ATSC A/53 Part 2, interleaving and trellis coding).
use Rattle.std.specs.Prelude.{ℕ, ℤ, ◌≡◌, ◌-◌, ◌*◌, Bool, List, [], ◌∷◌, ◌++◌, length, take, drop}
use Rattle.dtx_laws.specs.Branches.{leaving_all, after_all}
use Rattle.dtx_trellis.specs.Groups.{levels_of, states_after}
use Rattle.dtx_coder.specs.Stream.{coded_from, segment, last_of, symbols_of}
use Rattle.dtx_coder.specs.Groups.{Coding, Group, sent_segments, stream_coding}

-- A group whose packets have left the interleaver as these bytes: the place of its first packet in a field, whether
-- this is a second field, and whether a field sync stands before the group. Also the states from which it is coded, and
-- the bytes.
pub record InterleavedGroup : Type 0 where
  pub first : ℕ
  pub second : Bool
  pub sync : Bool
  pub from : List ℕ
  pub bytes : List ℕ

-- the group, whose packets have left the interleaver as these bytes
abbrev pub interleaved_as : List ℕ → Group → InterleavedGroup
interleaved_as bytes group = record {
  first = group.first;
  second = group.second;
  sync = group.sync;
  from = group.from;
  bytes = bytes;
}

-- its levels
abbrev pub levels_of_bytes : InterleavedGroup → List ℕ
levels_of_bytes group = levels_of group.first group.from group.bytes

-- its segments, where `last` are the last twelve symbols given before
unfoldable pub segments_of_bytes : List ℤ → InterleavedGroup → List (List ℤ)
segments_of_bytes last group = sent_segments last group.sync group.second (levels_of_bytes group)

-- the coder after the group: its branches stay
unfoldable pub after_bytes : Coding → InterleavedGroup → Coding
after_bytes coder group = record coder {
  states = states_after group.first group.from group.bytes;
  last = last_of (segment (levels_of_bytes group) 3);
}

-- the coder after the group, which was sent as `count` segments: their symbols are the first ones of `sent`
pub record IsSent (old : Coding) (group : InterleavedGroup) (new : Coding) (count : ℕ) (sent : List ℤ) : Type 0 where
  pub coder : new ≡ after_bytes old group
  pub segments : count ≡ length (segments_of_bytes old.last group)
  pub symbols : take (832 * count) sent ≡ symbols_of (segments_of_bytes old.last group)

-- The coder `ahead` is `held` after these packets were interleaved, and before any of them is sent. They left the
-- interleaver as `bytes`. The first one stands at place `first` of its field.
pub record IsAhead (held : Coding) (first : ℕ) (packets : List (List ℕ)) (bytes : List ℕ) (ahead : Coding)
    : Type 0 where
  pub left : bytes ≡ leaving_all 52 held.branches (coded_from first packets)
  pub coder : ahead ≡ record held { branches = after_all 52 held.branches (coded_from first packets) }

-- A batch: the coder has interleaved packets of a stream at once, those behind `before`, and has sent their groups
-- before this one. But for its branches it stands for what is sent. The bytes of the other packets stand in the batch
-- from this group on.
pub record AreInterleaved (coder : Coding) (batch : List ℕ) (before packets : List (List ℕ)) (group : ℕ) : Type 0 where
  pub ahead : IsAhead (stream_coding (before ++ take (4 * group) packets)) (length (before ++ take (4 * group) packets))
      (drop (4 * group) packets) (take (207 * (length packets - 4 * group)) (drop (828 * group) batch)) coder

-- the segments of groups that are sent one after another, 828 bytes each
unfoldable pub segments_by_bytes : Coding → List Group → List ℕ → List (List ℤ)
segments_by_bytes coder [] bytes = []
segments_by_bytes coder (g ∷ gs) bytes =
    segments_of_bytes coder.last (interleaved_as (take 828 bytes) g)
    ++ segments_by_bytes (after_bytes coder (interleaved_as (take 828 bytes) g)) gs (drop 828 bytes)

-- the coder after these groups
unfoldable pub after_all_bytes : Coding → List Group → List ℕ → Coding
after_all_bytes coder [] bytes = coder
after_all_bytes coder (g ∷ gs) bytes =
    after_all_bytes (after_bytes coder (interleaved_as (take 828 bytes) g)) gs (drop 828 bytes)
