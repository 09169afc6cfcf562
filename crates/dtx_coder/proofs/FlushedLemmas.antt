-- Where nothing is left of what the branches held at an align.
use Rattle.std.proofs.Common.{◌≡◌, ℕ, ◌+◌, ◌-◌, ◌*◌, ◌≤◌, List, length, take, drop, refl, sym, ap, ◌∙◌, arith}
use Rattle.std.proofs.lemmas.List.{ext_get_or, get_or-drop, length-drop}
use Rattle.dtx_laws.specs.Branches.{Branching, HasWidths, spreading, aligned, leaving_all}
use Rattle.dtx_laws.specs.Interleaving.{interleaved, IsInterleavedBehind}
use Rattle.dtx_laws.proofs.PlacesLemmas.{length_leaving}
use Rattle.dtx_laws.proofs.InterleavingLemmas.{HasWidths-aligned, behind, length-interleaved}
use Rattle.dtx_coder.specs.Groups.{Coding, Group, aligned_coding, coded_groups, bytes_of_groups}
use Rattle.dtx_coder.proofs.AlignLemmas.{in_turn}

-- the longest branch is through 51 * 208 bytes behind the align
pub drop_settled : (held : Branching) (x : List ℕ) (n : ℕ) → HasWidths 52 (spreading 4) held → 10764 ≤ n
    → drop n (leaving_all 52 (aligned held) x) ≡ drop n (interleaved 52 4 x)
drop_settled held x n w l = ext_get_or 0 (drop n (leaving_all 52 (aligned held) x)) (drop n (interleaved 52 4 x))
    (length-drop n (leaving_all 52 (aligned held) x) ∙ ap (λ (m : ℕ). m - n) long
    ∙ sym (length-drop n (interleaved 52 4 x))) (λ i k. grind (arith, get_or-drop, all, length_leaving, length-drop))
  where
    all : IsInterleavedBehind 52 4 held.lists x (leaving_all 52 (aligned held) x)
    all = behind 52 4 (aligned held) x (HasWidths-aligned 52 (spreading 4) held w) refl

    long : length (leaving_all 52 (aligned held) x) ≡ length (interleaved 52 4 x)
    long = length_leaving 52 (aligned held) x ∙ sym (length-interleaved 52 4 x)

pub bytes_settled : (coder : Coding) (groups : List Group) (n : ℕ) → HasWidths 52 (spreading 4) coder.branches
    → 10764 ≤ n
    → drop n (bytes_of_groups (aligned_coding coder) groups) ≡ drop n (interleaved 52 4 (coded_groups groups))
bytes_settled coder groups n w l = grind (arith, in_turn, drop_settled)

pub group_settled : (coder : Coding) (groups : List Group) (u : ℕ) → HasWidths 52 (spreading 4) coder.branches
    → 52 ≤ 4 * u → take (828 * u + 828 - 828 * u) (drop (828 * u) (bytes_of_groups (aligned_coding coder) groups))
    ≡ take (828 * u + 828 - 828 * u) (drop (828 * u) (interleaved 52 4 (coded_groups groups)))
group_settled coder groups u w l = grind (arith, bytes_settled)
