-- The value by which contracts see a soft decoder.
use Rattle.std.specs.Prelude.{ℕ, List, []}

-- the scale of its levels, and the potentials of the symbols that it decoded last
pub record Decoder : Type 0 where
  pub scale : ℕ
  pub potentials : List (List ℕ)

-- the value before any symbols
abbrev pub new_decoder : ℕ → Decoder
new_decoder scale = record { scale = scale; potentials = [] }
