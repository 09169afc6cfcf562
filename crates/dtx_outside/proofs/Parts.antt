-- The two parts that a list is split into.
use Rattle.std.proofs.Common.{◌≡◌, ◌++◌, List, ℕ, ap₂, ◌∙◌, take, drop}
use Rattle.std.proofs.lemmas.List.{take-append-drop}

pub parts_joined : (n : ℕ) (whole front rest : List ℕ) → front ≡ take n whole → rest ≡ drop n whole
    → front ++ rest ≡ whole
parts_joined n whole front rest e f = ap₂ ◌++◌ e f ∙ take-append-drop n whole
