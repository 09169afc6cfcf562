-- The next group of a stream: what a coder gives and holds behind it, where it stands for the packets before.
use Rattle.std.proofs.Common.{◌≡◌, ℕ, ◌+◌, ◌-◌, ◌*◌, ◌/◌, ◌%◌, ◌≤◌, ◌↔◌, ◌==◌, nat_le, cond, Bool, true, ℤ, List, []}
use Rattle.std.proofs.Common.{◌∷◌, ◌++◌, length, take, refl, sym, ap, ap₂, ◌∙◌, arith}
use Rattle.std.specs.List.{range_with_len, flat_map}
use Rattle.std.proofs.lemmas.Bool.{cases_Bool, cases_lt, cond-false, eq-eqb, ne_eqb, le-leb, lt-leb, iff_false}
use Rattle.std.proofs.lemmas.List.{append-nil, length-append, take_all}
use Rattle.dtx_laws.specs.Branches.{Branching, after_all}
use Rattle.dtx_trellis.specs.Trellis.{state_after, groups}
use Rattle.dtx_trellis.specs.Groups.{coder_after, states_after}
use Rattle.dtx_frame.specs.Segments.{field_sync}
use Rattle.dtx_coder.specs.Stream.{coded_from, coded, spread, whole_groups, zero_states, levels, states, segment}
use Rattle.dtx_coder.specs.Stream.{four_segments, last_of, last_before, sync_before, group_segments, a53}
use Rattle.dtx_coder.specs.Groups.{Coding, Group, StandsFor, IsNextGroup, zero_branches, new_coding, stream_coding}
use Rattle.dtx_coder.specs.Groups.{bytes_of, group_levels, air_segments, after_group}
use Rattle.dtx_coder.proofs.BytesLemmas.{bytes_behind, branches_append, coded_place}
use Rattle.dtx_coder.proofs.LevelsLemmas.{levels_behind, states_behind, length-levels, levels_next, states_next}
use Rattle.dtx_coder.proofs.SegmentsLemmas.{segment_back, four_back}
use Rattle.dtx_coder.proofs.StreamLemmas.{sync_front, a53_append}

-- ---- tests that say the same

is_zero : (b : Bool) (x y : ℕ) → ((b ≡ true) ↔ (x ≡ 0)) → x ≡ y → b ≡ (y == 0)
is_zero b x y h e = grind (arith, cases_Bool, eq-eqb, ne_eqb, iff_false)

is_above : (b : Bool) (x y : ℕ) → ((b ≡ true) ↔ (312 ≤ x)) → x ≡ y → b ≡ nat_le 312 y
is_above b x y h e = grind (arith, cases_Bool, cases_lt, le-leb, lt-leb, iff_false)

-- ---- the group's bytes and levels

take_whole : (ps : List (List ℕ)) → length ps % 4 ≡ 0 → take (4 * (length ps / 4)) ps ≡ ps
take_whole ps e = take_all (4 * (length ps / 4)) ps (omega (arith, e))

branches_held : (coder : Coding) (ps : List (List ℕ)) → StandsFor coder ps → length ps % 4 ≡ 0
    → coder.branches ≡ after_all 52 zero_branches (coded ps)
unfolding stream_coding
branches_held coder ps s e = grind (arith, take_whole)

states_held : (coder : Coding) (ps : List (List ℕ)) → StandsFor coder ps → coder.states ≡ states ps
unfolding stream_coding
states_held coder ps s = ap (λ (c : Coding). c.states) s

last_held : (coder : Coding) (ps : List (List ℕ)) → StandsFor coder ps → coder.last ≡ last_before ps (length ps / 4)
unfolding stream_coding
last_held coder ps s = ap (λ (c : Coding). c.last) s

-- A coder, the packets for which it stands, u whole groups, and their next group.
record Next (coder : Coding) (ps : List (List ℕ)) (u : ℕ) (g : Group) : Type 0 where
  pub stands : StandsFor coder ps
  pub next : IsNextGroup ps coder.states g
  pub groups : u ≡ length ps / 4

whole_of : (coder : Coding) (ps : List (List ℕ)) (u : ℕ) (g : Group) → Next coder ps u g → length ps ≡ 4 * u
whole_of coder ps u g n = let a = n.next.whole in let b = n.groups in omega (arith, a, b)

place_of : (coder : Coding) (ps : List (List ℕ)) (u : ℕ) (g : Group) → Next coder ps u g → g.first ≡ 4 * u % 312
place_of coder ps u g n = n.next.place ∙ ap (λ (k : ℕ). k % 312) (whole_of coder ps u g n)

codewords_are : (coder : Coding) (ps : List (List ℕ)) (u : ℕ) (g : Group) → Next coder ps u g
    → coded_from g.first g.packets ≡ coded_from (length ps) g.packets
codewords_are coder ps u g n = coded_place g.first (length ps) g.packets (let a = n.next.place in omega (arith, a))

bytes_are : (coder : Coding) (ps : List (List ℕ)) (u : ℕ) (g : Group) → Next coder ps u g
    → bytes_of coder g ≡ bytes_behind ps g.packets
unfolding bytes_of
bytes_are coder ps u g n = grind (arith, branches_held, codewords_are)

levels_are : (coder : Coding) (ps : List (List ℕ)) (u : ℕ) (g : Group) → Next coder ps u g
    → group_levels coder g ≡ levels_behind ps u (bytes_behind ps g.packets)
unfolding group_levels
levels_are coder ps u g n = grind (arith, place_of, states_held, bytes_are)

states_are : (coder : Coding) (ps : List (List ℕ)) (u : ℕ) (g : Group) → Next coder ps u g
    → states_after g.first g.from (bytes_of coder g) ≡ states_behind ps u (bytes_behind ps g.packets)
states_are coder ps u g n = grind (arith, place_of, states_held, bytes_are)

levels_long : (ps : List (List ℕ)) (u : ℕ) → length ps ≡ 4 * u → length (levels ps) ≡ 828 * (4 * u)
levels_long ps u e = omega (arith, e, length-levels ps)

-- ---- what the group is sent as

sync_is : (coder : Coding) (ps : List (List ℕ)) (u : ℕ) (g : Group) → Next coder ps u g
    → cond g.sync (field_sync g.second coder.last ∷ []) [] ≡ sync_before (ps ++ g.packets) u
unfolding sync_before
sync_is coder ps u g n = grind (arith, whole_of, is_zero, place_of, is_above, last_held, sync_front)

group_is : (coder : Coding) (ps : List (List ℕ)) (u : ℕ) (g : Group) → Next coder ps u g
    → group_segments (ps ++ g.packets) u ≡ air_segments coder g
unfolding group_segments air_segments
group_is coder ps u g n = ap₂ ◌++◌ (sym (sync_is coder ps u g n))
    (ap (λ zs. four_segments zs (4 * u)) (levels_next ps g.packets u (whole_of coder ps u g n) n.next.four)
    ∙ four_back (levels ps) (levels_behind ps u (bytes_behind ps g.packets)) (4 * u)
    (levels_long ps u (whole_of coder ps u g n)) ∙ ap (λ zs. four_segments zs 0) (sym (levels_are coder ps u g n)))

segments_by : (coder : Coding) (ps : List (List ℕ)) (u : ℕ) (g : Group) → Next coder ps u g
    → a53 (ps ++ g.packets) ≡ a53 ps ++ air_segments coder g
segments_by coder ps u g n = a53_append ps g.packets u (whole_of coder ps u g n)
    ∙ ap (λ k. a53 ps ++ flat_map (group_segments (ps ++ g.packets)) (range_with_len u k)) (let a = n.next.four in
    let one : length g.packets / 4 ≡ 1 = omega (arith, a) in one)
    ∙ ap (λ s. a53 ps ++ s) (append-nil (group_segments (ps ++ g.packets) u) ∙ group_is coder ps u g n)

pub next_segments : (coder : Coding) (packets : List (List ℕ)) (group : Group) → StandsFor coder packets
    → IsNextGroup packets coder.states group → a53 (packets ++ group.packets) ≡ a53 packets ++ air_segments coder group
next_segments coder packets group s n = grind (arith, segments_by)

-- ---- what the coder holds

last_is : (coder : Coding) (ps : List (List ℕ)) (u : ℕ) (g : Group) → Next coder ps u g
    → last_of (segment (group_levels coder g) 3) ≡ last_before (ps ++ g.packets) (u + 1)
unfolding last_before
last_is coder ps u g n =
    let e : length ps ≡ 4 * u = whole_of coder ps u g n in
    ap last_of (ap (λ zs. segment zs 3) (levels_are coder ps u g n)
    ∙ sym (segment_back (levels ps) (levels_behind ps u (bytes_behind ps g.packets)) (4 * u) 3 (levels_long ps u e))
    ∙ ap₂ segment (sym (levels_next ps g.packets u e n.next.four)) (behind u)) ∙ sym (grind (arith, cond-false, ne_eqb))
  where
    behind : (u : ℕ) → 4 * u + 3 ≡ 4 * (u + 1) - 1
    behind u = omega arith

branches_are : (coder : Coding) (ps : List (List ℕ)) (u : ℕ) (g : Group) → Next coder ps u g
    → after_all 52 coder.branches (coded_from g.first g.packets) ≡ after_all 52 zero_branches (coded (ps ++ g.packets))
branches_are coder ps u g n = grind (arith, branches_held, codewords_are, branches_append)

pub same_coding : (a b : List ℕ) (c d : List ℤ) (x y : Branching) → a ≡ b → c ≡ d → x ≡ y
    → ◌≡◌ {A = Coding} (record { states = a; last = c; branches = x }) (record { states = b; last = d; branches = y })
same_coding a b c d x y e f g = grind arith

stands_by : (coder : Coding) (ps : List (List ℕ)) (u : ℕ) (g : Group) → Next coder ps u g
    → StandsFor (after_group coder g) (ps ++ g.packets)
unfolding after_group stream_coding
stands_by coder ps u g n =
    let e : length ps ≡ 4 * u = whole_of coder ps u g n in
    let four : length g.packets ≡ 4 = n.next.four in
    let all : length (ps ++ g.packets) ≡ length ps + length g.packets = length-append ps g.packets in
    same_coding (states_after g.first g.from (bytes_of coder g)) (states (ps ++ g.packets))
    (last_of (segment (group_levels coder g) 3)) (last_before (ps ++ g.packets) (length (ps ++ g.packets) / 4))
    (after_all 52 coder.branches (coded_from g.first g.packets))
    (after_all 52 zero_branches (coded (take (4 * (length (ps ++ g.packets) / 4)) (ps ++ g.packets))))
    (states_are coder ps u g n ∙ sym (states_next ps g.packets u e four)) (last_is coder ps u g n
    ∙ ap (last_before (ps ++ g.packets)) (grind arith)) (branches_are coder ps u g n
    ∙ ap (λ xs. after_all 52 zero_branches (coded xs))
    (sym (take_whole (ps ++ g.packets) (omega (arith, e, four, all)))))

pub next_stands : (coder : Coding) (packets : List (List ℕ)) (group : Group) → StandsFor coder packets
    → IsNextGroup packets coder.states group → StandsFor (after_group coder group) (packets ++ group.packets)
next_stands coder packets group s n = grind (arith, stands_by)

-- ---- no packets

pub new_stands : StandsFor new_coding []
unfolding new_coding stream_coding states zero_states states_after coder_after state_after groups whole_groups
    last_before after_all coded_from spread
new_stands = refl

pub a53_nothing : a53 [] ≡ []
unfolding a53
a53_nothing = refl
