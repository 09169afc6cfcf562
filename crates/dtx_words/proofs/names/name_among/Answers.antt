use Rattle.std.proofs.Common.{◌≡◌, ℕ, List, [], get_or, map, ap, refl, sym, ◌∙◌, arith}
use Rattle.std.proofs.Math.ListN.{get_or-map}
use Rattle.std.specs.Prelude.{Option, unwrap_or}
use Rattle.std.specs.Borrow.{Bor}
use Rattle.dtx_words.proofs.names.name_among.Goals as goal

-- the name of that number, or the other one, which is empty
name_at : (names : List (Bor (List ℕ))) (input : ℕ) (result other : Bor (List ℕ)) (copied found : Option (Bor (List ℕ)))
    → result ≡ unwrap_or copied other → copied ≡ found → unwrap_or found other ≡ get_or names input other
    → other.now ≡ [] → result.now ≡ get_or (map (λ name. name.now) names) input []
name_at names input result other copied found result_is copied_is at empty =
    ap (λ name. name.now) (result_is ∙ ap (λ names. unwrap_or names other) copied_is ∙ at)
    ∙ sym (get_or-map (λ (name : Bor (List ℕ)). name.now) names input other)
    ∙ ap (get_or (map (λ name. name.now) names) input) empty

pub returns-in-Absent : goal.returns-in-Absent
returns-in-Absent c =
    rw c.in-Absent.is (name_at c.args.names.now c.in-Absent.input _ _ _ _ c.unwrap_or-in-Absent.ensures
    c.copied.ensures (c.get.ensures.lookup.4 (omega arith) _) refl)
