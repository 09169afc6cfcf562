use Rattle.std.proofs.Common.{◌≡◌, ◌++◌, take}
use Rattle.dtx_files.specs.LogText.{joined}
use Rattle.dtx_files.proofs.log_text.push_all.Given as goal

abbrev pub invariant-loop-piece : goal.invariant-loop-piece
invariant-loop-piece l = l.text.bytes ≡ l.fn.text.bytes ++ joined (take l.piece-index l.pieces)
