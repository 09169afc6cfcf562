-- The rows of a table of products.
use Rattle.std.specs.Prelude.{ℕ, ◌-◌, ◌*◌, nat_lt, if◌then◌else◌}

-- the byte that row n of 32 is for: the values of a byte's lower half, and then those of its upper half
unfoldable pub half_byte : ℕ → ℕ
half_byte n = if nat_lt n 16 then n else 16 * (n - 16)
