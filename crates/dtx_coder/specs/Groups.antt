-- A group coder as contracts see it: the segments of a group, and the coder after it.
use Rattle.std.specs.Prelude.{ℕ, ℤ, ◌≡◌, ◌↔◌, ◌*◌, ◌/◌, ◌%◌, ◌≤◌, Bool, IsTrue, if◌then◌else◌, List, [], ◌∷◌, ◌++◌}
use Rattle.std.specs.Prelude.{length, take}
use Rattle.std.specs.List.{flat_map}
use Rattle.dtx_frame.specs.Segments.{field_sync}
use Rattle.dtx_laws.specs.Branches.{Branching, HasWidths, spreading, zeroed, aligned, leaving_all, after_all}
use Rattle.dtx_outer.specs.Outer.{Held}
use Rattle.dtx_trellis.specs.Groups.{levels_of, states_after}
use Rattle.dtx_whiten.specs.Randomizer.{randomizer_bytes}
use Rattle.dtx_coder.specs.Stream.{coded_from, coded, zero_states, states, segment, four_segments, last_of, no_last}
use Rattle.dtx_coder.specs.Stream.{last_before, symbols_of}

-- the state numbers of trellis coders 0 to 11, the last twelve symbols given, and the interleaver's branches
pub record Coding : Type 0 where
  pub states : List ℕ
  pub last : List ℤ
  pub branches : Branching

-- the branches before the first byte of a stream
abbrev pub zero_branches : Branching
zero_branches = zeroed 52 (spreading 4)

-- a coder to which nothing was given
unfoldable pub new_coding : Coding
new_coding = record { states = zero_states; last = no_last; branches = zero_branches }

-- The next byte goes to branch 0, and all else stays.
abbrev pub aligned_coding : Coding → Coding
aligned_coding coder = record coder { branches = aligned coder.branches }

-- A group: the place of its first packet in a field, whether this is a second field, and whether a field sync stands
-- before it. Also the states from which it is coded, and its packets.
pub record Group : Type 0 where
  pub first : ℕ
  pub second : Bool
  pub sync : Bool
  pub from : List ℕ
  pub packets : List (List ℕ)

-- the bytes that leave the interleaver while the codewords of the packets enter it
unfoldable pub bytes_of : Coding → Group → List ℕ
bytes_of coder group = leaving_all 52 coder.branches (coded_from group.first group.packets)

-- the levels of these bytes
unfoldable pub group_levels : Coding → Group → List ℕ
group_levels coder group = levels_of group.first group.from (bytes_of coder group)

-- The segments of a group's levels: a field sync, if one stands before the group, and four data segments. The field
-- sync ends with the last twelve symbols given before.
abbrev pub sent_segments : List ℤ → (sync second : Bool) → List ℕ → List (List ℤ)
sent_segments last sync second zs = (if sync then field_sync second last ∷ [] else []) ++ four_segments zs 0

-- the group's segments
unfoldable pub air_segments : Coding → Group → List (List ℤ)
air_segments coder group = sent_segments coder.last group.sync group.second (group_levels coder group)

-- the coder after the group
unfoldable pub after_group : Coding → Group → Coding
after_group coder group = record {
  states = states_after group.first group.from (bytes_of coder group);
  last = last_of (segment (group_levels coder group) 3);
  branches = after_all 52 coder.branches (coded_from group.first group.packets);
}

-- the coder after the group, which was sent as `count` segments: their symbols are the first ones of `sent`
pub record IsCoded (old : Coding) (group : Group) (new : Coding) (count : ℕ) (sent : List ℤ) : Type 0 where
  pub coder : new ≡ after_group old group
  pub segments : count ≡ length (air_segments old group)
  pub symbols : take (832 * count) sent ≡ symbols_of (air_segments old group)

-- the codewords of groups, one after another
abbrev pub coded_groups : List Group → List ℕ
coded_groups groups = flat_map (λ g. coded_from g.first g.packets) groups

-- the bytes that leave the interleaver while groups are given, one after another
unfoldable pub bytes_of_groups : Coding → List Group → List ℕ
bytes_of_groups coder [] = []
bytes_of_groups coder (g ∷ gs) = bytes_of coder g ++ bytes_of_groups (after_group coder g) gs

-- a coder that was given the whole groups of a stream, one after another, with no preset
unfoldable pub stream_coding : List (List ℕ) → Coding
stream_coding packets = record {
  states = states packets;
  last = last_before packets (length packets / 4);
  branches = after_all 52 zero_branches (coded (take (4 * (length packets / 4)) packets));
}

-- the coder is as the whole groups of these packets leave it
abbrev pub StandsFor : Coding → List (List ℕ) → Type 0
StandsFor coder packets = coder ≡ stream_coding packets

-- the group after these packets of a stream, coded from these states
pub record IsNextGroup (packets : List (List ℕ)) (from : List ℕ) (group : Group) : Type 0 where
  pub whole : length packets % 4 ≡ 0
  pub four : length group.packets ≡ 4
  pub place : group.first ≡ length packets % 312
  pub second : IsTrue group.second ↔ (312 ≤ length packets % 624)
  pub sync : IsTrue group.sync ↔ (group.first ≡ 0)
  pub states : group.from ≡ from

-- The outer coding is that of the standard: the randomizer's bytes, and branches of their widths.
pub record IsAtsc (outer : Held) : Type 0 where
  pub white : outer.white ≡ randomizer_bytes
  pub widths : HasWidths 52 (spreading 4) outer.branches
