use Rattle.std.proofs.Common.{take}
use Rattle.dtx_rounds.specs.Found.{AreFound, bytes_there, new_code}
use Rattle.dtx_rounds.proofs.words.find_words.Given as goal

abbrev pub invariant-loop-k : goal.invariant-loop-k
invariant-loop-k l =
    AreFound (new_code (bytes_there l.fn.field l.fn.next) (take l.k l.fn.field.words)) l.fn.field l.fn.next l.field
    l.next
