-- The bytes that leave while groups are given, one after another.
use Rattle.std.proofs.Common.{◌≡◌, List, [], ◌∷◌, ◌++◌, refl, sym, ap, subst, ◌∙◌}
use Rattle.dtx_laws.specs.Branches.{HasWidths, spreading, aligned, leaving_all}
use Rattle.dtx_laws.specs.Interleaving.{IsInterleavedBehind}
use Rattle.dtx_laws.proofs.PlacesLemmas.{leaving_append}
use Rattle.dtx_laws.proofs.InterleavingLemmas.{HasWidths-aligned, behind}
use Rattle.dtx_coder.specs.Stream.{coded_from}
use Rattle.dtx_coder.specs.Groups.{Coding, Group, aligned_coding, bytes_of, after_group, coded_groups, bytes_of_groups}

pub in_turn : (coder : Coding) (groups : List Group)
    → bytes_of_groups coder groups ≡ leaving_all 52 coder.branches (coded_groups groups)
unfolding bytes_of_groups bytes_of after_group leaving_all
in_turn coder [] = refl
in_turn coder (g ∷ gs) =
    ap (λ ys. leaving_all 52 coder.branches (coded_from g.first g.packets) ++ ys) (in_turn (after_group coder g) gs)
    ∙ sym (leaving_append 52 coder.branches (coded_from g.first g.packets) (coded_groups gs))

pub behind_groups : (coder : Coding) (groups : List Group) → HasWidths 52 (spreading 4) coder.branches
    → IsInterleavedBehind 52 4 coder.branches.lists (coded_groups groups)
    (bytes_of_groups (aligned_coding coder) groups)
behind_groups coder groups w = subst (λ ys. IsInterleavedBehind 52 4 coder.branches.lists (coded_groups groups) ys)
    (sym (in_turn (aligned_coding coder) groups)) (behind 52 4 (aligned coder.branches) (coded_groups groups)
    (HasWidths-aligned 52 (spreading 4) coder.branches w) refl)
