-- Pieces of a text, one behind another.
use Rattle.std.proofs.Common.{◌≡◌, ℕ, ◌<◌, suc, List, ◌++◌, ◌∷◌, length, take, drop, sym, ap, ◌∙◌, get_or}
use Rattle.std.specs.Borrow.{Bor}
use Rattle.std.proofs.Math.Seq.{drop-cons}
use Rattle.std.proofs.lemmas.Grind.{flat_map-append}
use Rattle.std.proofs.lemmas.List.Concat.{flat_map-cons}
use Rattle.std.proofs.lemmas.List.{take-append-drop}
use Rattle.dtx_files.specs.LogText.{joined}

-- the pieces before one, it, and those after it
pub joined-split : (pieces : List (Bor (List ℕ))) (i : ℕ) (d : Bor (List ℕ)) → i < length pieces
    → joined pieces ≡ joined (take i pieces) ++ ((get_or pieces i d).now ++ joined (drop (suc i) pieces))
joined-split pieces i d within =
    ap joined (sym (take-append-drop i pieces) ∙ ap (λ z. take i pieces ++ z) (drop-cons pieces i d within))
    ∙ flat_map-append (λ piece. piece.now) (take i pieces) (get_or pieces i d ∷ drop (suc i) pieces)
    ∙ ap (λ z. joined (take i pieces) ++ z) (flat_map-cons (λ piece. piece.now) (get_or pieces i d)
    (drop (suc i) pieces))
