-- What rounds over a capture give is the refined capture, field by field.
use Rattle.std.proofs.Common.{◌≡◌, ℕ, ℤ, zero, suc, ◌+◌, List, [], arith}
use Rattle.dtx_acquire.specs.Acquired.{acquired}
use Rattle.dtx_rounds.specs.Decided.{decided_rows}
use Rattle.dtx_rounds.specs.RunField.{rows_of, IsRounded}
use Rattle.dtx_rounds.specs.Rounds.{heard_of, refined, rounds_of}
use Rattle.dtx_rounds.specs.RunRounds.{IsGiven}
use Rattle.dtx_rounds.specs.declared.field.Field.{Field}

pub given_segments : (scale count f : ℕ) (symbols : List ℤ) (field : Field)
    → IsGiven scale (heard_of symbols) (acquired scale symbols) [] count f field
    → decided_rows field ≡ rows_of (refined scale symbols count) f
unfolding refined rounds_of
given_segments scale zero f symbols field h = h.decided
given_segments scale (suc r) f symbols field h = h.turned.decided

pub given_last : (scale r f : ℕ) (symbols : List ℤ) (field : Field)
    → IsGiven scale (heard_of symbols) (acquired scale symbols) [] (r + 1) f field
    → IsRounded scale (heard_of symbols) (refined scale symbols r) f field
unfolding refined
given_last scale r f symbols field h = grind arith
