-- Damage of a file of symbols, or of bytes, as it is received (the profile's own). Its bytes are counted from 0.
use Rattle.std.specs.Prelude.{ℕ, pos, ◌≡◌, ◌+◌, ◌*◌, ◌<◌, ◌≤◌, min, max, ◌⊎◌, ◌-ℤ◌, ◌*ℤ◌, nat_abs, List, length}
use Rattle.std.specs.Prelude.{slice_index}
use Rattle.std.specs.Int.{w8, cast_signed}

-- The bytes are those that were sent, except for `count` in a row from byte `from` on, which may be any numbers.
pub record IsBurst (count from : ℕ) (sent got : List ℕ) : Type 0 where
  pub as_many : length got ≡ length sent
  pub others : (n : ℕ) → n < length sent → (n < from) ⊎ (from + count ≤ n) → slice_index got n ≡ slice_index sent n

-- The bytes are those that were sent, except that some are 0x80, which says that nothing was received there. These are
-- among `count` bytes in a row from byte `from` on.
pub record IsGap (count from : ℕ) (sent got : List ℕ) : Type 0 where
  pub as_many : length got ≡ length sent
  pub others : (n : ℕ) → n < length sent → (slice_index got n ≡ slice_index sent n)
      ⊎ ((slice_index got n ≡ 0x80) × (from ≤ n) × (n < from + count))

-- Damage of `count` symbols in a row from symbol `from` on spares the field syncs of a file of `bytes` bytes. A field
-- has 313 segments of 832 symbols, and begins with its field sync. The damage reaches at most 32 of the first 515
-- symbols of each field sync. So more than 32 symbols in a row spare the first sync of a file only from symbol 483 of
-- it on.
abbrev pub SparesSyncs : ℕ → ℕ → ℕ → Type 0
SparesSyncs count from bytes =
    (f : ℕ) → 260416 * f < bytes → min (from + count) (260416 * f + 515) ≤ max from (260416 * f) + 32

-- Each byte, as a signed number, differs by less than `scale` from `scale` times the byte that was sent.
pub record IsNoisy (scale : ℕ) (sent got : List ℕ) : Type 0 where
  pub as_many : length got ≡ length sent
  pub near : (n : ℕ) → n < length sent → nat_abs (cast_signed w8 (slice_index got n)
      -ℤ (pos scale *ℤ cast_signed w8 (slice_index sent n))) < scale
