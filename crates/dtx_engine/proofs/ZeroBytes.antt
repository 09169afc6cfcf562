-- What was given for outputs while zeros are written to the first.
use Rattle.std.proofs.Common.{◌≡◌, ℕ, ◌-◌, ◌≤◌, List, [], ◌++◌, take, Option, ap, ap₂, subst, ◌∙◌, arith}
use Rattle.std.specs.Prelude.{replicate, Result}
use Rattle.std.proofs.lemmas.List.{append_assoc, append-nil, replicate-append-replicate, take-replicate}
use Rattle.dtx_outside.specs.Shelf.{Files}
use Rattle.dtx_meaning.specs.Meaning.{ArePartWritten}
use Rattle.dtx_meaning.specs.declared.status.Status.{Status}
use Rattle.dtx_engine.specs.Made.{Made, both, joined, only, outputs_of}
use Rattle.dtx_engine.specs.Outlet.{IsPut}
use Rattle.dtx_engine.proofs.OutletLemmas.{part_of_more}

-- one behind the other, and both behind what was given before
joined_on : (a b c : Made) → joined (joined a b) c ≡ joined a (joined b c)
joined_on a b c = ap₂ both (append_assoc a.first b.first c.first) (append_assoc a.second b.second c.second)

-- Of `count` zeros `left` are left, and some of them are written.
pub zeros_more : (given : Made) (some left count : ℕ) → some ≤ left → left ≤ count → some ≤ 4096
    → joined (joined given (only (replicate (count - left) 0))) (both (take some (replicate 4096 0)) [])
    ≡ joined given (only (replicate (count - (left - some)) 0))
zeros_more given some left count few most short =
    joined_on given (only (replicate (count - left) 0)) (both (take some (replicate 4096 0)) [])
    ∙ ap (λ (b : List ℕ). joined given (only b)) (ap (λ (b : List ℕ). replicate (count - left) 0 ++ b)
    (take-replicate some 4096 0 short) ∙ replicate-append-replicate (count - left) some 0
    ∙ ap (λ (n : ℕ). replicate n 0) (omega (arith, few, most)))

-- a part of fewer is a part of more
fewer_zeros : (names : List (List ℕ)) (given : Made) (n m : ℕ) (start now : Option Files) → n ≤ m
    → ArePartWritten (outputs_of names (joined given (only (replicate n 0)))) start now
    → ArePartWritten (outputs_of names (joined given (only (replicate m 0)))) start now
fewer_zeros names given n m start now few part =
    part_of_more names (joined given (only (replicate n 0))) (joined given (only (replicate m 0))) start now (
      (
        replicate (m - n) 0,
        append_assoc given.first (replicate n 0) (replicate (m - n) 0)
            ∙ ap (λ (b : List ℕ). given.first ++ b) (grind (arith, replicate-append-replicate)),
      ),
      ([], append-nil (given.second ++ [])),
    ) part

-- some of those that are left couldn't be written
pub zeros_unwritten : (names other : List (List ℕ)) (given : Made) (some left count : ℕ) (start now : Option Files)
    → other ≡ names → some ≤ left → left ≤ count → some ≤ 4096
    → ArePartWritten (outputs_of other (joined (joined given (only (replicate (count - left) 0)))
    (both (take some (replicate 4096 0)) []))) start now
    → ArePartWritten (outputs_of names (joined given (only (replicate count 0)))) start now
zeros_unwritten names other given some left count start now same few most short part =
    fewer_zeros names given (count - (left - some)) count start now (omega arith) (grind (arith, zeros_more))

-- what is made behind them was written, or a fault
pub put_behind : (names other : List (List ℕ)) (start now : Option Files) (given gives : Made) (n : ℕ)
    (first second : List ℕ) (result : Result (Unit {0}) Status) (gathered : Option Files → Made → Option Files → Type 0)
    → other ≡ names → replicate n 0 ++ first ≡ gives.first → second ≡ gives.second
    → IsPut other start (joined (joined given (only (replicate n 0))) (both first second)) result gathered now
    → IsPut names start (joined given gives) result gathered now
put_behind names other start now given gives n first second result gathered same first_is second_is put =
    subst (λ (k : List (List ℕ)). IsPut k start (joined given gives) result gathered now) same
    (subst (λ (m : Made). IsPut other start m result gathered now)
    (joined_on given (only (replicate n 0)) (both first second)
    ∙ ap (λ (m : Made). joined given m) (ap₂ both first_is second_is)) put)

-- a part of the zeros is a part of what is made
pub zeros_of_made : (names : List (List ℕ)) (given gives : Made) (n : ℕ) (first : List ℕ) (start now : Option Files)
    → replicate n 0 ++ first ≡ gives.first
    → ArePartWritten (outputs_of names (joined given (only (replicate n 0)))) start now
    → ArePartWritten (outputs_of names (joined given gives)) start now
zeros_of_made names given gives n first start now first_is part = grind (arith, part_of_more, append_assoc, append-nil)
