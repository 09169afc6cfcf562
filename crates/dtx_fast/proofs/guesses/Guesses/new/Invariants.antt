use Rattle.std.proofs.Common.{◌≡◌, length}
use Rattle.dtx_fast.proofs.guesses.Guesses.new.Given as goal

abbrev pub invariant-loop-y : goal.invariant-loop-y
invariant-loop-y l = record { halves : length l.halves ≡ 256; thirds : length l.thirds ≡ 256 }
