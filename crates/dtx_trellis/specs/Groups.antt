-- The twelve coders over the bytes of whole groups, from the state numbers of coders 0 to 11. The first group is at
-- place s of its field (ATSC A/53 Part 2, trellis coding).
use Rattle.std.specs.Prelude.{ℕ, ◌≡◌, ◌+◌, ◌*◌, ◌/◌, ◌<◌, ℤ, pos, List, map, slice_index, slice_index_or}
use Rattle.std.specs.List.{range_with_len}
use Rattle.dtx_sizes.specs.declared.segments.TheConstants.{CODERS, GROUP_LEVELS, ROUNDS, SEGMENT_LEVELS, SEGMENT_SYNC}
use Rattle.dtx_trellis.specs.Trellis.{State, level, state_after, state_of, symbol_of, number_of, groups, higher, lower}
use Rattle.dtx_trellis.specs.Trellis.{coder_at}

-- the state of coder e after t pairs
unfoldable pub coder_after : ℕ → List ℕ → List ℕ → ℕ → ℕ → State
coder_after s states bytes t e = state_after (state_of (slice_index states e)) (higher s bytes e) (lower s bytes e) t

-- the level of data symbol d: in each round each coder gives one
unfoldable pub level_at : ℕ → List ℕ → List ℕ → ℕ → ℕ
level_at s states bytes d =
    let e : ℕ = coder_at s d in
    level (state_of (slice_index states e)) (higher s bytes e) (lower s bytes e) (d / CODERS)

-- the levels of all data symbols, in the order of emission
unfoldable pub levels_of : ℕ → List ℕ → List ℕ → List ℕ
levels_of s states bytes = map (level_at s states bytes) (range_with_len 0 (GROUP_LEVELS * groups bytes))

-- where data symbol d of a group is sent: behind the sync of its own segment and those of the segments before it
unfoldable pub sent_place : ℕ → ℕ
sent_place d = d + SEGMENT_SYNC * (d / SEGMENT_LEVELS + 1)

-- the first n data symbols stand where they are sent
unfoldable pub AreSent : ℕ → List ℕ → List ℕ → ℕ → List ℤ → Type 0
AreSent s states bytes n symbols =
    (d : ℕ) → d < n → slice_index_or symbols (sent_place d) (pos 0) ≡ symbol_of (level_at s states bytes d)

-- the state numbers after all pairs
unfoldable pub states_after : ℕ → List ℕ → List ℕ → List ℕ
states_after s states bytes =
    map (λ e. number_of (coder_after s states bytes (ROUNDS * groups bytes) e)) (range_with_len 0 CODERS)
