-- Places whose bytes have gone through: none, and some behind others.
use Rattle.std.proofs.Common.{ℕ, ◌<◌, ◌≤◌, List, arith}
use Rattle.std.proofs.lemmas.Bool.{cases_lt}
use Rattle.std.proofs.lemmas.List.FromFn.{fill_by_all}
use Rattle.dtx_spread.specs.Rings.{ArePassed}
use Rattle.dtx_spread.proofs.Column.{column_at, length-column}
use Rattle.dtx_spread.proofs.Turns.{its_place}

pub none_passed : (b next n : ℕ) (lists : List (List ℕ)) (bytes : List ℕ) → ArePassed b next n n lists lists bytes bytes
none_passed b next n lists bytes = grind arith

-- ---- some places behind others

pub passed_on : (b next a m n : ℕ) (old mid new : List (List ℕ)) (bytes some out : List ℕ) → a ≤ m → m ≤ n → n ≤ b
    → 0 < b → ArePassed b next a m old mid bytes some → ArePassed b next m n mid new some out
    → ArePassed b next a n old new bytes out
passed_on b next a m n old mid new bytes some out am mn nb zb f g =
    grind (arith, cases_lt, fill_by_all, length-column, column_at, its_place)
