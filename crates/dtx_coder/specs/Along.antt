-- A coder that follows a stream from an anchor on. It is aligned at the anchor, whatever it was given before. Then it
-- is given the groups of the packets from there on, some of them with preset states. Packet 0 is the anchor's, and
-- begins a first field.
use Rattle.std.specs.Prelude.{ℕ, ◌≡◌, ◌-◌, ◌*◌, ◌%◌, ◌<◌, ◌≤◌, List, length, drop}
use Rattle.dtx_laws.specs.Branches.{Branching, HasWidths, spreading, aligned, leaving_all, after_all}
use Rattle.dtx_trellis.specs.Groups.{levels_of, states_after}
use Rattle.dtx_coder.specs.Stream.{coded, whole_groups, segment, last_of}
use Rattle.dtx_coder.specs.Groups.{Coding, Group}

-- the levels of these packets from group g on, where the coders start that group in the states q; and the states after
-- the last group
unfoldable pub levels_since : ℕ → List ℕ → List (List ℕ) → List ℕ
levels_since g q packets = levels_of (4 * g % 312) q (drop (828 * g) (whole_groups packets))

unfoldable pub states_since : ℕ → List ℕ → List (List ℕ) → List ℕ
states_since g q packets = states_after (4 * g % 312) q (drop (828 * g) (whole_groups packets))

-- the bytes that leave the interleaver from group g on, where the branches held these bytes at the align
unfoldable pub left_since : Branching → ℕ → List (List ℕ) → List ℕ
left_since held g packets = drop (828 * g) (leaving_all 52 (aligned held) (coded packets))

-- the group after these packets, coded from the states q
pub record IsNext (packets : List (List ℕ)) (q : List ℕ) (group : Group) : Type 0 where
  pub place : group.first ≡ length packets % 312
  pub four : length group.packets ≡ 4
  pub states : group.from ≡ q

-- Since the align the coder was given the groups of these packets. Group g was the last one with preset states, which
-- were q. Where no states were preset yet, g is 0 and q are the states at the align.
pub record RunsAlong (packets : List (List ℕ)) (g : ℕ) (q : List ℕ) (coder : Coding) : Type 0 where
  pub held : Branching
  pub widths : HasWidths 52 (spreading 4) held
  pub whole : length packets % 4 ≡ 0
  pub begun : 4 * g ≤ length packets
  pub branches : coder.branches ≡ after_all 52 (aligned held) (coded packets)
  pub states : coder.states ≡ states_after (4 * g % 312) q (left_since held g packets)
  pub last : 4 * g < length packets
      → coder.last ≡ last_of (segment (levels_of (4 * g % 312) q (left_since held g packets))
      (length packets - 4 * g - 1))
