-- Groups one after another: the bytes, the states and the segments of all of them.
use Rattle.std.proofs.Common.{◌≡◌, ℕ, zero, suc, ◌+◌, ◌-◌, ◌*◌, ◌%◌, ◌<◌, ◌==◌, cond, ℤ, List, [], ◌∷◌, ◌++◌, length}
use Rattle.std.proofs.Common.{drop, refl, sym, ap, ap₂, ◌∙◌, arith}
use Rattle.std.specs.List.{enumerate_from, flat_map}
use Rattle.std.proofs.lemmas.Bool.{cond-false, ne_eqb}
use Rattle.std.proofs.lemmas.List.{append-nil, append_assoc, drop_at, length-append}
use Rattle.dtx_laws.specs.Branches.{after_all}
use Rattle.dtx_laws.proofs.PlacesLemmas.{after_append, length_leaving}
use Rattle.dtx_frame.specs.Segments.{field_sync}
use Rattle.dtx_trellis.specs.Trellis.{group_place}
use Rattle.dtx_trellis.specs.Groups.{levels_of, states_after}
use Rattle.dtx_trellis.proofs.JoinsLemmas.{states_append, levels_append}
use Rattle.dtx_coder.specs.Stream.{coded_from, coded, segment, four_segments, last_of}
use Rattle.dtx_coder.specs.Groups.{Coding, Group, bytes_of, group_levels, air_segments, after_group, coded_groups}
use Rattle.dtx_coder.specs.Groups.{bytes_of_groups}
use Rattle.dtx_coder.specs.Runs.{AreInTurn, GoOn, IsGroupRun, after_groups, segments_of_groups, group_packets, last_in}
use Rattle.dtx_coder.specs.Runs.{run_group, run_segments}
use Rattle.dtx_coder.proofs.BytesLemmas.{coded_append, coded_place, length-coded}
use Rattle.dtx_coder.proofs.LevelsLemmas.{length-levels_of}
use Rattle.dtx_coder.proofs.SegmentsLemmas.{segment_front, segment_back, four_front, four_behind}
use Rattle.dtx_coder.proofs.AlignLemmas.{in_turn}

-- ---- a cut

pub coder_append : (coder : Coding) (front rest : List Group)
    → after_groups coder (front ++ rest) ≡ after_groups (after_groups coder front) rest
unfolding after_groups
coder_append coder [] rest = refl
coder_append coder (g ∷ gs) rest = coder_append (after_group coder g) gs rest

pub bytes_append : (coder : Coding) (front rest : List Group)
    → bytes_of_groups coder (front ++ rest) ≡ bytes_of_groups coder front
    ++ bytes_of_groups (after_groups coder front) rest
unfolding bytes_of_groups after_groups
bytes_append coder [] rest = refl
bytes_append coder (g ∷ gs) rest = ap (λ zs. bytes_of coder g ++ zs) (bytes_append (after_group coder g) gs rest)
    ∙ sym (grind (arith, append_assoc))

pub segments_append : (coder : Coding) (front rest : List Group)
    → segments_of_groups coder (front ++ rest) ≡ segments_of_groups coder front
    ++ segments_of_groups (after_groups coder front) rest
unfolding segments_of_groups after_groups
segments_append coder [] rest = refl
segments_append coder (g ∷ gs) rest =
    ap (λ zs. air_segments coder g ++ zs) (segments_append (after_group coder g) gs rest)
    ∙ sym (grind (arith, append_assoc))

-- ---- bytes

pub branches_groups : (coder : Coding) (gs : List Group)
    → (after_groups coder gs).branches ≡ after_all 52 coder.branches (coded_groups gs)
unfolding after_groups after_group after_all
branches_groups coder [] = refl
branches_groups coder (g ∷ gs) = branches_groups (after_group coder g) gs ∙ sym (grind (arith, after_append))

pub length-bytes_of : (coder : Coding) (g : Group) → length g.packets ≡ 4 → length (bytes_of coder g) ≡ 828
unfolding bytes_of
length-bytes_of coder g e = grind (arith, length_leaving, length-coded)

length-coded_groups : (gs : List Group) (s : ℕ) → AreInTurn s gs → length (coded_groups gs) ≡ 828 * length gs
unfolding AreInTurn
length-coded_groups [] s t = refl
length-coded_groups (g ∷ gs) s t = length-append (coded_from g.first g.packets) (coded_groups gs)
    ∙ ap₂ (λ (x y : ℕ). x + y) (length-coded g.first g.packets
    ∙ ap (λ (n : ℕ). 207 * n) t.1) (length-coded_groups gs (group_place s 1) t.2)
    ∙ more (length gs)
  where
    more : (n : ℕ) → 828 + 828 * n ≡ 828 * suc n
    more n = omega arith

pub length-bytes_of_groups : (coder : Coding) (gs : List Group) (s : ℕ) → AreInTurn s gs
    → length (bytes_of_groups coder gs) ≡ 828 * length gs
length-bytes_of_groups coder gs s t = grind (arith, in_turn, length_leaving, length-coded_groups)

next_place : (s k m : ℕ) → s % 312 ≡ k % 312 → m ≡ 4 → group_place s 1 % 312 ≡ (k + m) % 312
unfolding group_place
next_place s k m e f = omega (arith, e, f)

coded_none : (k : ℕ) → [] ≡ coded_from k []
unfolding coded_from
coded_none k = refl

coded_in_turn : (gs : List Group) (s k : ℕ) → AreInTurn s gs → s % 312 ≡ k % 312
    → coded_groups gs ≡ coded_from k (group_packets gs)
unfolding AreInTurn
coded_in_turn [] s k t e = coded_none k
coded_in_turn (g ∷ gs) s k t e = ap₂ ◌++◌ (coded_place g.first k g.packets (ap (λ (n : ℕ). n % 312) t.0
    ∙ e)) (coded_in_turn gs (group_place s 1) (k + length g.packets) t.2 (next_place s k (length g.packets) e t.1))
    ∙ sym (coded_append k g.packets (group_packets gs))

pub coded_packets : (gs : List Group) → AreInTurn 0 gs → coded_groups gs ≡ coded (group_packets gs)
coded_packets gs t = coded_in_turn gs 0 0 t refl

-- ---- states

-- the group's own levels and states, at its place and from its states
pub levels_at : (coder : Coding) (g : Group) (s : ℕ) (q : List ℕ) → g.first ≡ s → g.from ≡ q
    → group_levels coder g ≡ levels_of s q (bytes_of coder g)
unfolding group_levels
levels_at coder g s q e f = ap₂ (λ x y. levels_of x y (bytes_of coder g)) e f

pub states_at : (coder : Coding) (g : Group) (s : ℕ) (q : List ℕ) → g.first ≡ s → g.from ≡ q
    → (after_group coder g).states ≡ states_after s q (bytes_of coder g)
unfolding after_group
states_at coder g s q e f = ap₂ (λ x y. states_after x y (bytes_of coder g)) e f

one_group : (coder : Coding) (g : Group) → length g.packets ≡ 4 → length (bytes_of coder g) ≡ 828 * 1
one_group coder g e = length-bytes_of coder g e

states_in : (coder : Coding) (s : ℕ) (q : List ℕ) (gs : List Group) → AreInTurn s gs → GoOn q coder gs → 0 < length gs
    → (after_groups coder gs).states ≡ states_after s q (bytes_of_groups coder gs)
unfolding AreInTurn GoOn after_groups bytes_of_groups
states_in coder s q [] t o l = absurd (omega (arith, l))
states_in coder s q (g ∷ []) t o l = grind (arith, states_at, append-nil)
states_in coder s q (g ∷ (h ∷ gs)) t o l =
    let rest : List ℕ = bytes_of_groups (after_group coder g) (h ∷ gs) in
    states_in (after_group coder g) (group_place s 1) (after_group coder g).states (h ∷ gs) t.2 o.1 (omega arith)
    ∙ ap (λ p. states_after (group_place s 1) p rest) (states_at coder g s q t.0 o.0)
    ∙ sym (states_append s 1 q (bytes_of coder g) rest (one_group coder g t.1))

pub states_run : (coder : Coding) (s : ℕ) (q : List ℕ) (gs : List Group) → IsGroupRun s q coder gs → 0 < length gs
    → (after_groups coder gs).states ≡ states_after s q (bytes_of_groups coder gs)
states_run coder s q gs r l = states_in coder s q gs r.in_turn r.go_on l

-- ---- segments

-- the levels of a run behind those of its first group
levels_parts : (coder : Coding) (g : Group) (s : ℕ) (q rest : List ℕ) → g.first ≡ s → g.from ≡ q → length g.packets ≡ 4
    → levels_of s q (bytes_of coder g ++ rest) ≡ group_levels coder g
    ++ levels_of (group_place s 1) (after_group coder g).states rest
levels_parts coder g s q rest e f four = levels_append s 1 q (bytes_of coder g) rest (one_group coder g four)
    ∙ ap₂ (λ xs p. xs ++ levels_of (group_place s 1) p rest) (sym (levels_at coder g s q e f))
    (sym (states_at coder g s q e f))

pub last_after : (coder : Coding) (g : Group) → (after_group coder g).last ≡ last_of (segment (group_levels coder g) 3)
unfolding after_group
last_after coder g = refl

pub length-group_levels : (coder : Coding) (g : Group) → length g.packets ≡ 4 → length (group_levels coder g) ≡ 828 * 4
unfolding group_levels
length-group_levels coder g e = length-levels_of g.first g.from (bytes_of coder g) 1 (one_group coder g e)

-- the last twelve symbols before a group, and the group, where the levels of one group more stand in front
last_behind : (last : List ℤ) (xs zs : List ℕ) (n : ℕ) → length xs ≡ 828 * 4
    → last_in last (xs ++ zs) (n + 1) ≡ last_in (last_of (segment xs 3)) zs n
unfolding last_in
last_behind last xs zs n e = cond-false (n + 1 == 0) last (last_of (segment (xs ++ zs) (4 * (n + 1) - 1)))
    (ne_eqb (n + 1) 0 (λ z. omega (arith, z))) ∙ by_cases n
  where
    back : (n : ℕ) → 4 * (suc n + 1) - 1 ≡ 4 + (4 * suc n - 1)
    back n = omega arith

    by_cases : (n : ℕ) → last_of (segment (xs ++ zs) (4 * (n + 1) - 1))
        ≡ cond (n == 0) (last_of (segment xs 3)) (last_of (segment zs (4 * n - 1)))
    by_cases zero = ap last_of (segment_front xs zs 3 (omega (arith, e)))
    by_cases (suc n) = ap last_of (ap (segment (xs ++ zs)) (back n) ∙ segment_back xs zs 4 (4 * suc n - 1) e)
        ∙ sym (grind (arith, cond-false, ne_eqb))

group_behind : (last : List ℤ) (xs zs : List ℕ) (n : ℕ) (g : Group) → length xs ≡ 828 * 4
    → run_group last (xs ++ zs) (n + 1, g) ≡ run_group (last_of (segment xs 3)) zs (n, g)
unfolding run_group
group_behind last xs zs n g e =
    ap₂ (λ l ss. cond g.sync (field_sync g.second l ∷ []) [] ++ ss) (last_behind last xs zs n e)
    (ap (four_segments (xs ++ zs)) (four n) ∙ four_behind xs zs 4 (4 * n) e)
  where
    four : (n : ℕ) → 4 * (n + 1) ≡ 4 + 4 * n
    four n = omega arith

groups_behind : (last : List ℤ) (xs zs : List ℕ) (n : ℕ) (gs : List Group) → length xs ≡ 828 * 4
    → flat_map (run_group last (xs ++ zs)) (enumerate_from (n + 1) gs)
    ≡ flat_map (run_group (last_of (segment xs 3)) zs) (enumerate_from n gs)
groups_behind last xs zs n [] e = refl
groups_behind last xs zs n (g ∷ gs) e = ap₂ ◌++◌ (group_behind last xs zs n g e) (groups_behind last xs zs (n + 1) gs e)

-- the first group of a run
group_front : (coder : Coding) (g : Group) (zs : List ℕ) → length g.packets ≡ 4
    → air_segments coder g ≡ run_group coder.last (group_levels coder g ++ zs) (0, g)
unfolding air_segments run_group last_in
group_front coder g zs e = grind (arith, four_front, length-group_levels)

segments_in : (coder : Coding) (s : ℕ) (q : List ℕ) (gs : List Group) → AreInTurn s gs → GoOn q coder gs
    → segments_of_groups coder gs ≡ run_segments coder.last (levels_of s q (bytes_of_groups coder gs)) gs
unfolding AreInTurn GoOn segments_of_groups bytes_of_groups run_segments
segments_in coder s q [] t o = refl
segments_in coder s q (g ∷ gs) t o =
    let xs : List ℕ = group_levels coder g in
    let rest : List ℕ = bytes_of_groups (after_group coder g) gs in
    let zs : List ℕ = levels_of (group_place s 1) (after_group coder g).states rest in
    ap₂ ◌++◌ (group_front coder g zs t.1)
    (segments_in (after_group coder g) (group_place s 1) (after_group coder g).states gs t.2 o.1
    ∙ ap (λ l. flat_map (run_group l zs) (enumerate_from 0 gs)) (last_after coder g)
    ∙ sym (groups_behind coder.last xs zs 0 gs (length-group_levels coder g t.1)))
    ∙ ap (λ ys. flat_map (run_group coder.last ys) (enumerate_from 0 (g ∷ gs))) (sym (grind (arith, levels_parts)))

pub segments_run : (coder : Coding) (s : ℕ) (q : List ℕ) (gs : List Group) → IsGroupRun s q coder gs
    → segments_of_groups coder gs ≡ run_segments coder.last (levels_of s q (bytes_of_groups coder gs)) gs
segments_run coder s q gs r = segments_in coder s q gs r.in_turn r.go_on

last_first : (last : List ℤ) (zs : List ℕ) → last ≡ last_in last zs 0
unfolding last_in
last_first last zs = refl

last_in_run : (coder : Coding) (s : ℕ) (q : List ℕ) (gs : List Group) → AreInTurn s gs → GoOn q coder gs
    → (after_groups coder gs).last ≡ last_in coder.last (levels_of s q (bytes_of_groups coder gs)) (length gs)
unfolding AreInTurn GoOn after_groups bytes_of_groups
last_in_run coder s q [] t o = last_first coder.last (levels_of s q [])
last_in_run coder s q (g ∷ gs) t o =
    let xs : List ℕ = group_levels coder g in
    let rest : List ℕ = bytes_of_groups (after_group coder g) gs in
    let zs : List ℕ = levels_of (group_place s 1) (after_group coder g).states rest in
    last_in_run (after_group coder g) (group_place s 1) (after_group coder g).states gs t.2 o.1
    ∙ ap (λ l. last_in l zs (length gs)) (last_after coder g) ∙ sym (grind (arith, last_behind, length-group_levels))
    ∙ ap₂ (last_in coder.last) (sym (levels_parts coder g s q rest t.0 o.0 t.1)) (let e : length gs + 1
    ≡ suc (length gs) = omega arith in e)

pub last_run : (coder : Coding) (s : ℕ) (q : List ℕ) (gs : List Group) → IsGroupRun s q coder gs
    → (after_groups coder gs).last ≡ last_in coder.last (levels_of s q (bytes_of_groups coder gs)) (length gs)
last_run coder s q gs r = last_in_run coder s q gs r.in_turn r.go_on

-- ---- a run behind other groups

bytes_since : (coder : Coding) (front run : List Group) (r : ℕ) → AreInTurn r front
    → bytes_of_groups (after_groups coder front) run ≡ drop (828 * length front) (bytes_of_groups coder (front ++ run))
bytes_since coder front run r t = grind (arith, drop_at, length-bytes_of_groups, bytes_append)

pub segments_restart : (coder : Coding) (front run : List Group) (r s : ℕ) (q : List ℕ) → AreInTurn r front
    → IsGroupRun s q (after_groups coder front) run → segments_of_groups coder (front ++ run)
    ≡ segments_of_groups coder front ++ run_segments (after_groups coder front).last
    (levels_of s q (drop (828 * length front) (bytes_of_groups coder (front ++ run)))) run
segments_restart coder front run r s q t i = segments_append coder front run
    ∙ ap (λ ss. segments_of_groups coder front ++ ss) (segments_run (after_groups coder front) s q run i
    ∙ ap (λ ys. run_segments (after_groups coder front).last (levels_of s q ys) run) (bytes_since coder front run r t))

pub states_restart : (coder : Coding) (front run : List Group) (r s : ℕ) (q : List ℕ) → AreInTurn r front
    → IsGroupRun s q (after_groups coder front) run → 0 < length run
    → (after_groups coder (front ++ run)).states ≡ states_after s q
    (drop (828 * length front) (bytes_of_groups coder (front ++ run)))
states_restart coder front run r s q t i l = ap (λ (c : Coding). c.states) (coder_append coder front run)
    ∙ states_run (after_groups coder front) s q run i l
    ∙ ap (states_after s q) (bytes_since coder front run r t)
