-- Bursts: wrong or missing symbols in a row, in the segments of a stream as they are received (the profile's own; what
-- is sent is that of ATSC A/53 Part 2). Symbols are counted from 0 over all segments, 832 to each, with the syncs.
use Rattle.std.specs.Prelude.{ℕ, ℤ, pos, ◌≡◌, ◌+◌, ◌*◌, ◌/◌, ◌%◌, ◌<◌, ◌≤◌, min, max, ◌⊎◌, true, List, [], length}
use Rattle.std.specs.Prelude.{slice_index_or}
use Rattle.dtx_slice.specs.Slicing.{sliced}
use Rattle.dtx_erase.specs.Marks.{is_missing}
use Rattle.dtx_chain.specs.Damage.{to_sync}

-- symbol n of segments
abbrev pub symbol_at : List (List ℤ) → ℕ → ℤ
symbol_at segments n = slice_index_or (slice_index_or segments (n / 832) []) (n % 832) (pos 0)

unfoldable pub symbol_level : List (List ℤ) → ℕ → ℕ
symbol_level segments n = sliced (symbol_at segments n)

-- Each symbol has the level that was sent, except for `count` in a row from symbol `from` on, which may be any numbers.
pub record IsBurst (count from : ℕ) (sent got : List (List ℤ)) : Type 0 where
  pub others : (n : ℕ) → n < 832 * length sent → (n < from) ⊎ (from + count ≤ n)
      → symbol_level got n ≡ symbol_level sent n

-- Each symbol is missing or has the level that was sent. The missing ones are among `count` in a row from symbol `from`
-- on.
pub record IsGap (count from : ℕ) (sent got : List (List ℤ)) : Type 0 where
  pub there : (n : ℕ) → n < 832 * length sent
      → (is_missing (symbol_at got n) ≡ true) ⊎ (symbol_level got n ≡ symbol_level sent n)
  pub missing : (n : ℕ) → n < 832 * length sent → is_missing (symbol_at got n) ≡ true → (from ≤ n) × (n < from + count)

-- A burst of `count` symbols from symbol `from` on begins at the first field sync or after it. It reaches at most 32 of
-- the first 515 symbols of each field sync. A field sync begins at the symbol of the number 832 * i.
pub record LeavesSyncs (first count from segments : ℕ) : Type 0 where
  pub behind : 832 * to_sync first ≤ from
  pub few : (i : ℕ) → i < segments → (first + i) % 313 ≡ 0
      → min (from + count) (832 * i + 515) ≤ max from (832 * i) + 32
