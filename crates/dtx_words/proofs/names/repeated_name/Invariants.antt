use Rattle.std.proofs.Common.{◌≡◌, map, take, drop}
use Rattle.dtx_words.specs.Names.{repeated, repeated_after}
use Rattle.dtx_words.proofs.names.repeated_name.Given as goal

abbrev pub invariant-loop-i : goal.invariant-loop-i
invariant-loop-i l =
    repeated (map (λ name. name.now) l.names)
    ≡ repeated_after (map (λ name. name.now) (take l.i l.names)) (map (λ name. name.now) (drop l.i l.names))
