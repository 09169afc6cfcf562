-- Groups that a coder is given one after another, from any states and whatever its branches hold (ATSC A/53 Part 2,
-- trellis coding).
use Rattle.std.specs.Prelude.{ℕ, ℤ, ◌≡◌, ◌-◌, ◌*◌, ◌<◌, ◌==◌, if◌then◌else◌, ⊤, EachIndex, List, [], ◌∷◌, ◌++◌, length}
use Rattle.std.specs.Prelude.{slice_index}
use Rattle.std.specs.List.{enumerate_from, flat_map}
use Rattle.dtx_frame.specs.Segments.{field_sync}
use Rattle.dtx_trellis.specs.Trellis.{group_place}
use Rattle.dtx_coder.specs.Stream.{segment, four_segments, last_of}
use Rattle.dtx_coder.specs.Groups.{Coding, Group, air_segments, after_group}

-- the state numbers of twelve coders
pub record AreStates (states : List ℕ) : Type 0 where
  pub twelve : length states ≡ 12
  pub small : EachIndex states (λ e. slice_index states e < 8)

-- the coder after these groups
unfoldable pub after_groups : Coding → List Group → Coding
after_groups coder [] = coder
after_groups coder (g ∷ gs) = after_groups (after_group coder g) gs

-- their segments
unfoldable pub segments_of_groups : Coding → List Group → List (List ℤ)
segments_of_groups coder [] = []
segments_of_groups coder (g ∷ gs) = air_segments coder g ++ segments_of_groups (after_group coder g) gs

-- their packets
abbrev pub group_packets : List Group → List (List ℕ)
group_packets groups = flat_map (λ g. g.packets) groups

-- groups of four packets: the first stands at place s of its field, and each next one four places on
unfoldable pub AreInTurn : ℕ → List Group → Type 0
AreInTurn s [] = ⊤
AreInTurn s (g ∷ gs) = (g.first ≡ s) × (length g.packets ≡ 4) × AreInTurn (group_place s 1) gs

-- The first group is coded from the states q, and each further one from those that the group before it leaves.
unfoldable pub GoOn : List ℕ → Coding → List Group → Type 0
GoOn q coder [] = ⊤
GoOn q coder (g ∷ gs) = (g.from ≡ q) × GoOn (after_group coder g).states (after_group coder g) gs

-- A run: groups in turn. Only the first one may have preset states.
pub record IsGroupRun (s : ℕ) (q : List ℕ) (coder : Coding) (groups : List Group) : Type 0 where
  pub in_turn : AreInTurn s groups
  pub go_on : GoOn q coder groups

-- the last twelve symbols before group i of a run with the levels zs: those of the data segment before it, and before
-- the first group those that the coder gave last
unfoldable pub last_in : List ℤ → List ℕ → ℕ → List ℤ
last_in last zs i = if i == 0 then last else last_of (segment zs (4 * i - 1))

-- group i of the run: a field sync, if one stands before it, and data segments 4 * i to 4 * i + 3 of the run's levels
unfoldable pub run_group : List ℤ → List ℕ → ℕ × Group → List (List ℤ)
run_group last zs p =
    (if p.1.sync then field_sync p.1.second (last_in last zs p.0) ∷ [] else []) ++ four_segments zs (4 * p.0)

-- the segments of the run
unfoldable pub run_segments : List ℤ → List ℕ → List Group → List (List ℤ)
run_segments last zs groups = flat_map (run_group last zs) (enumerate_from 0 groups)
