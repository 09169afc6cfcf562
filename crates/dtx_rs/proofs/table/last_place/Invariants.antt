use Rattle.std.proofs.Common.{◌≡◌, ℕ, ◌<◌, ◌∷◌, get_or, length, []}
use Rattle.dtx_rs.specs.Generator.{row, word_bytes}
use Rattle.dtx_rs.proofs.table.last_place.Given as goal

abbrev pub invariant-loop-f : goal.invariant-loop-f
invariant-loop-f l = record {
  rows : (j : ℕ) → j < l.f → word_bytes (get_or l.place.firsts j 0
      ∷ (get_or l.place.rests j (record { words = [] })).words) ≡ row l.fn.divisor j 0;
  each : (j : ℕ) → j < l.f → length (get_or l.place.rests j (record { words = [] })).words ≡ 4;
  firsts : length l.place.firsts ≡ 256;
  rests : length l.place.rests ≡ 256;
}
