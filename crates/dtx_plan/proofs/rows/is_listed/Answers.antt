use Rattle.std.proofs.Common.{◌≡◌, Bool, ◌||◌, List, [], ◌∷◌, map, refl, ap, ◌∙◌}
use Rattle.std.specs.List.{list_any}
use Rattle.dtx_plan.proofs.rows.is_listed.Goals as goal

list_any-map : {X Y : Type 0} (f : X → Y) (test : Y → Bool) (xs : List X)
    → list_any (λ x. test (f x)) xs ≡ list_any test (map f xs)
list_any-map f test [] = refl
list_any-map f test (x ∷ xs) = ap (λ rest. test (f x) || rest) (list_any-map f test xs)

pub returns : goal.returns
returns c = c.contains.ensures.value ∙ list_any-map (λ n. n.now) _ c.args.names.now
