use Rattle.std.proofs.Common.{◌≡◌, ℕ, ◌<◌, ◌∷◌, get_or, length, []}
use Rattle.dtx_laws.specs.Register.{fed}
use Rattle.dtx_rs.specs.Generator.{word_bytes}
use Rattle.dtx_rs.proofs.table.place_before.Given as goal

abbrev pub invariant-loop-f : goal.invariant-loop-f
invariant-loop-f l = record {
  rows : (j : ℕ) → j < l.f → word_bytes (get_or l.place.firsts j 0
      ∷ (get_or l.place.rests j (record { words = [] })).words)
      ≡ fed l.fn.divisor (word_bytes (get_or l.fn.behind.firsts j 0
      ∷ (get_or l.fn.behind.rests j (record { words = [] })).words)) 0;
  each : (j : ℕ) → j < l.f → length (get_or l.place.rests j (record { words = [] })).words ≡ 4;
  firsts : length l.place.firsts ≡ 256;
  rests : length l.place.rests ≡ 256;
}
