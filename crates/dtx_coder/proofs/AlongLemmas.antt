-- A coder that runs along with a stream from an align.
use Rattle.std.proofs.Common.{◌≡◌, ℕ, ◌+◌, ◌-◌, ◌*◌, ◌/◌, ◌%◌, ◌<◌, ◌≤◌, cond, List, [], ◌∷◌, ◌++◌, length, drop}
use Rattle.std.proofs.Common.{get_or, refl, sym, ap, ap₂, ◌∙◌, arith, zero-add}
use Rattle.std.proofs.lemmas.List.{drop-append-le, drop_all, length-append, length-drop}
use Rattle.std.proofs.lemmas.List.FromFn.{fill_by_all}
use Rattle.dtx_laws.specs.Branches.{Branching, HasWidths, spreading, aligned, leaving_all, after_all}
use Rattle.dtx_laws.specs.Interleaving.{interleaved}
use Rattle.dtx_laws.proofs.PlacesLemmas.{leaving_append, after_append, length_leaving}
use Rattle.dtx_frame.specs.Segments.{field_sync}
use Rattle.dtx_trellis.specs.Trellis.{number_of, state_of, state_after, groups, group_place}
use Rattle.dtx_trellis.specs.Groups.{coder_after, levels_of, states_after}
use Rattle.dtx_trellis.proofs.JoinsLemmas.{states_append, levels_append}
use Rattle.dtx_coder.specs.Stream.{coded_from, coded, spread, whole_groups, segment, four_segments, last_of}
use Rattle.dtx_coder.specs.Groups.{Coding, Group, aligned_coding, bytes_of, group_levels, air_segments, after_group}
use Rattle.dtx_coder.specs.Runs.{AreStates}
use Rattle.dtx_coder.specs.Along.{IsNext, RunsAlong, left_since, levels_since, states_since}
use Rattle.dtx_coder.proofs.BytesLemmas.{coded_append, coded_place, length-coded, whole_is}
use Rattle.dtx_coder.proofs.LevelsLemmas.{length-levels_of}
use Rattle.dtx_coder.proofs.SegmentsLemmas.{segment_back, four_back}
use Rattle.dtx_coder.proofs.FlushedLemmas.{drop_settled}
use Rattle.dtx_coder.proofs.RunsLemmas.{levels_at, states_at, last_after}

-- ---- bytes

length-left : (held : Branching) (g : ℕ) (packets : List (List ℕ))
    → length (left_since held g packets) ≡ 207 * length packets - 828 * g
unfolding left_since
length-left held g packets = grind (arith, length-drop, length_leaving, length-coded)

coded_more : (packets qs : List (List ℕ)) → coded (packets ++ qs) ≡ coded packets ++ coded_from (length packets) qs
coded_more packets qs = grind (arith, coded_append, zero-add)

left_more : (held : Branching) (g : ℕ) (packets qs : List (List ℕ)) → 828 * g ≤ 207 * length packets
    → left_since held g (packets ++ qs) ≡ left_since held g packets
    ++ leaving_all 52 (after_all 52 (aligned held) (coded packets)) (coded_from (length packets) qs)
unfolding left_since
left_more held g packets qs l = grind (arith, coded_more, leaving_append, drop-append-le, length_leaving, length-coded)

interleaved_whole : (packets : List (List ℕ)) (u : ℕ) → length packets ≡ 4 * u
    → interleaved 52 4 (coded packets) ≡ whole_groups packets
unfolding spread
interleaved_whole packets u e = sym (whole_is packets u e)

left_settled : (held : Branching) (g u : ℕ) (packets : List (List ℕ)) → HasWidths 52 (spreading 4) held → 52 ≤ 4 * g
    → length packets ≡ 4 * u → left_since held g packets ≡ drop (828 * g) (whole_groups packets)
unfolding left_since
left_settled held g u packets w l e = drop_settled held (coded packets) (828 * g) w (omega (arith, l))
    ∙ ap (drop (828 * g)) (interleaved_whole packets u e)

-- ---- the sums

-- From the states p at place r the sums go on as those from the states q at place s do behind the bytes y.
record Carries (s : ℕ) (q y : List ℕ) (r : ℕ) (p : List ℕ) : Type 0 where
  pub states : (z : List ℕ) → states_after r p z ≡ states_after s q (y ++ z)
  pub levels : (z : List ℕ) → levels_of s q (y ++ z) ≡ levels_of s q y ++ levels_of r p z

carries_on : (s v r : ℕ) (q y p : List ℕ) → length y ≡ 828 * v → group_place s v ≡ r → p ≡ states_after s q y
    → Carries s q y r p
carries_on s v r q y p e f h = record {
  states = λ z. ap₂ (λ x st. states_after x st z) (sym f) h ∙ sym (states_append s v q y z e);
  levels = λ z. levels_append s v q y z e ∙ ap₂ (λ x st. levels_of s q y ++ levels_of x st z) f (sym h);
}

no_levels : (s : ℕ) (q : List ℕ) → levels_of s q [] ≡ []
unfolding levels_of groups
no_levels s q = refl

carries_anew : (s : ℕ) (q y : List ℕ) → y ≡ [] → Carries s q y s q
carries_anew s q y e = record {
  states = λ z. ap (λ x. states_after s q (x ++ z)) (sym e);
  levels = λ z. ap (λ x. levels_of s q (x ++ z)) e
      ∙ ap (λ x. x ++ levels_of s q z) (sym (ap (levels_of s q) e ∙ no_levels s q));
}

-- ---- one group more

-- u groups were given, v of them since group g, and the next one is coded from the states p
record Step (packets : List (List ℕ)) (g u v : ℕ) (q p : List ℕ) (coder : Coding) (group : Group)
    (held : Branching) : Type 0 where
  pub whole : length packets ≡ 4 * u
  pub since : u ≡ g + v
  pub widths : HasWidths 52 (spreading 4) held
  pub branches : coder.branches ≡ after_all 52 (aligned held) (coded packets)
  pub next : IsNext packets p group
  pub carries : Carries (4 * g % 312) q (left_since held g packets) (4 * u % 312) p

codewords_next : (packets : List (List ℕ)) (g u v : ℕ) (q p : List ℕ) (coder : Coding) (group : Group)
    (held : Branching) → Step packets g u v q p coder group held
    → coded_from group.first group.packets ≡ coded_from (length packets) group.packets
codewords_next packets g u v q p coder group held s = grind (arith, coded_place)

bytes_next : (packets : List (List ℕ)) (g u v : ℕ) (q p : List ℕ) (coder : Coding) (group : Group) (held : Branching)
    → Step packets g u v q p coder group held
    → left_since held g (packets ++ group.packets) ≡ left_since held g packets ++ bytes_of coder group
unfolding bytes_of
bytes_next packets g u v q p coder group held s = left_more held g packets group.packets (grind arith)
    ∙ ap (λ z. left_since held g packets ++ z) (ap₂ (leaving_all 52) (sym s.branches)
    (sym (codewords_next packets g u v q p coder group held s)))

place_next : (packets : List (List ℕ)) (g u v : ℕ) (q p : List ℕ) (coder : Coding) (group : Group) (held : Branching)
    → Step packets g u v q p coder group held → group.first ≡ 4 * u % 312
place_next packets g u v q p coder group held s = s.next.place ∙ ap (λ (k : ℕ). k % 312) s.whole

levels_next : (packets : List (List ℕ)) (g u v : ℕ) (q p : List ℕ) (coder : Coding) (group : Group) (held : Branching)
    → Step packets g u v q p coder group held → levels_of (4 * g % 312) q (left_since held g packets)
    ++ group_levels coder group ≡ levels_of (4 * g % 312) q (left_since held g (packets ++ group.packets))
levels_next packets g u v q p coder group held s = ap (λ z. levels_of (4 * g % 312) q (left_since held g packets)
    ++ z) (grind (arith, levels_at, place_next)) ∙ sym (s.carries.levels (bytes_of coder group))
    ∙ ap (levels_of (4 * g % 312) q) (sym (bytes_next packets g u v q p coder group held s))

length-levels_before : (packets : List (List ℕ)) (g u v : ℕ) (q p : List ℕ) (coder : Coding) (group : Group)
    (held : Branching) → Step packets g u v q p coder group held
    → length (levels_of (4 * g % 312) q (left_since held g packets)) ≡ 828 * (4 * v)
length-levels_before packets g u v q p coder group held s =
    length-levels_of (4 * g % 312) q (left_since held g packets) v (grind (arith, length-left)) ∙ sizes v
  where
    sizes : (v : ℕ) → 3312 * v ≡ 828 * (4 * v)
    sizes v = omega arith

last_next : (packets : List (List ℕ)) (g u v : ℕ) (q p : List ℕ) (coder : Coding) (group : Group) (held : Branching)
    → Step packets g u v q p coder group held → (after_group coder group).last
    ≡ last_of (segment (levels_of (4 * g % 312) q (left_since held g (packets ++ group.packets)))
    (length (packets ++ group.packets) - 4 * g - 1))
last_next packets g u v q p coder group held s =
    let place : 4 * v + 3 ≡ length (packets ++ group.packets) - 4 * g - 1 =
    let a = s.whole in let b = s.since in let c = s.next.four in
    omega (arith, a, b, c, length-append packets group.packets) in
    last_after coder group
    ∙ ap last_of
    (sym (segment_back (levels_of (4 * g % 312) q (left_since held g packets)) (group_levels coder group) (4 * v) 3
    (length-levels_before packets g u v q p coder group held s))
    ∙ ap₂ segment (levels_next packets g u v q p coder group held s) place)

branches_next : (packets : List (List ℕ)) (g u v : ℕ) (q p : List ℕ) (coder : Coding) (group : Group) (held : Branching)
    → Step packets g u v q p coder group held
    → (after_group coder group).branches ≡ after_all 52 (aligned held) (coded (packets ++ group.packets))
unfolding after_group
branches_next packets g u v q p coder group held s =
    ap₂ (after_all 52) s.branches (codewords_next packets g u v q p coder group held s)
    ∙ sym (grind (arith, after_append)) ∙ ap (after_all 52 (aligned held)) (sym (coded_more packets group.packets))

step_along : (packets : List (List ℕ)) (g u v : ℕ) (q p : List ℕ) (coder : Coding) (group : Group) (held : Branching)
    → Step packets g u v q p coder group held → RunsAlong (packets ++ group.packets) g q (after_group coder group)
step_along packets g u v q p coder group held s = record {
  held = held;
  widths = s.widths;
  whole = let a = s.whole in let c = s.next.four in omega (arith, a, c, length-append packets group.packets);
  begun = let a = s.whole in let b = s.since in omega (arith, a, b, length-append packets group.packets);
  branches = branches_next packets g u v q p coder group held s;
  states = states_at coder group (4 * u % 312) p (place_next packets g u v q p coder group held s) s.next.states
      ∙ s.carries.states (bytes_of coder group)
      ∙ ap (states_after (4 * g % 312) q) (sym (bytes_next packets g u v q p coder group held s));
  last = λ _. last_next packets g u v q p coder group held s;
}

step_sent : (packets : List (List ℕ)) (g u v : ℕ) (q p : List ℕ) (coder : Coding) (group : Group) (held : Branching)
    → Step packets g u v q p coder group held → 52 ≤ 4 * g
    → air_segments coder group ≡ cond group.sync (field_sync group.second coder.last ∷ []) []
    ++ four_segments (levels_since g q (packets ++ group.packets)) (4 * v)
unfolding air_segments levels_since
step_sent packets g u v q p coder group held s l =
    ap (λ ss. cond group.sync (field_sync group.second coder.last ∷ []) [] ++ ss)
    (sym (four_back (levels_of (4 * g % 312) q (left_since held g packets)) (group_levels coder group) (4 * v)
    (length-levels_before packets g u v q p coder group held s)) ∙ ap (λ zs. four_segments zs (4 * v))
    (levels_next packets g u v q p coder group held s ∙ ap (levels_of (4 * g % 312) q)
    (left_settled held g (u + 1) (packets ++ group.packets) s.widths l (grind (arith, length-append)))))

-- ---- with the states that the coder has

place_is : (s v r : ℕ) → (s + 4 * v) % 312 ≡ r → group_place s v ≡ r
unfolding group_place
place_is s v r e = e

goes_on_step : (packets : List (List ℕ)) (g : ℕ) (q : List ℕ) (coder : Coding) (group : Group)
    (r : RunsAlong packets g q coder) → IsNext packets coder.states group
    → Step packets g (length packets / 4) (length packets / 4 - g) q coder.states coder group r.held
goes_on_step packets g q coder group r n =
    let whole : length packets % 4 ≡ 0 = r.whole in
    let begun : 4 * g ≤ length packets = r.begun in
    let place : (4 * g % 312 + 4 * (length packets / 4 - g)) % 312 ≡ 4 * (length packets / 4) % 312 = omega arith in
    record {
      whole = omega arith;
      since = omega arith;
      widths = r.widths;
      branches = r.branches;
      next = n;
      carries = carries_on (4 * g % 312) (length packets / 4 - g) (4 * (length packets / 4) % 312) q
          (left_since r.held g packets) coder.states (omega (arith, length-left r.held g packets))
          (place_is (4 * g % 312) (length packets / 4 - g) (4 * (length packets / 4) % 312) place) r.states;
    }

pub along_goes_on : (packets : List (List ℕ)) (g : ℕ) (q : List ℕ) (coder : Coding) (group : Group)
    → RunsAlong packets g q coder → IsNext packets coder.states group
    → RunsAlong (packets ++ group.packets) g q (after_group coder group)
along_goes_on packets g q coder group r n =
    step_along packets g (length packets / 4) (length packets / 4 - g) q coder.states coder group r.held
    (goes_on_step packets g q coder group r n)

pub sent_group : (packets : List (List ℕ)) (g : ℕ) (q : List ℕ) (coder : Coding) (group : Group)
    → RunsAlong packets g q coder → 52 ≤ 4 * g → IsNext packets coder.states group
    → air_segments coder group ≡ cond group.sync (field_sync group.second coder.last ∷ []) []
    ++ four_segments (levels_since g q (packets ++ group.packets)) (length packets - 4 * g)
sent_group packets g q coder group r l n =
    step_sent packets g (length packets / 4) (length packets / 4 - g) q coder.states coder group r.held
    (goes_on_step packets g q coder group r n) l ∙ ap (λ k. cond group.sync (field_sync group.second coder.last ∷ []) []
    ++ four_segments (levels_since g q (packets ++ group.packets)) k) (grind arith)

-- ---- with preset states

none_left : (held : Branching) (u : ℕ) (packets : List (List ℕ)) → length packets ≡ 4 * u
    → left_since held u packets ≡ []
unfolding left_since
none_left held u packets e = grind (arith, drop_all, length_leaving, length-coded)

preset_step : (packets : List (List ℕ)) (g : ℕ) (q p : List ℕ) (coder : Coding) (group : Group)
    (r : RunsAlong packets g q coder) → IsNext packets p group
    → Step packets (length packets / 4) (length packets / 4) 0 p p coder group r.held
preset_step packets g q p coder group r n =
    let whole : length packets % 4 ≡ 0 = r.whole in
    record {
      whole = omega (arith, whole);
      since = omega arith;
      widths = r.widths;
      branches = r.branches;
      next = n;
      carries = carries_anew (4 * (length packets / 4) % 312) p (left_since r.held (length packets / 4) packets)
          (none_left r.held (length packets / 4) packets (omega (arith, whole)));
    }

pub along_preset : (packets : List (List ℕ)) (g : ℕ) (q p : List ℕ) (coder : Coding) (group : Group)
    → RunsAlong packets g q coder → IsNext packets p group
    → RunsAlong (packets ++ group.packets) (length packets / 4) p (after_group coder group)
along_preset packets g q p coder group r n =
    step_along packets (length packets / 4) (length packets / 4) 0 p p coder group r.held
    (preset_step packets g q p coder group r n)

pub sent_preset : (packets : List (List ℕ)) (g : ℕ) (q p : List ℕ) (coder : Coding) (group : Group)
    → RunsAlong packets g q coder → 52 ≤ length packets → IsNext packets p group
    → air_segments coder group ≡ cond group.sync (field_sync group.second coder.last ∷ []) []
    ++ four_segments (levels_since (length packets / 4) p (packets ++ group.packets)) 0
sent_preset packets g q p coder group r l n =
    step_sent packets (length packets / 4) (length packets / 4) 0 p p coder group r.held
    (preset_step packets g q p coder group r n) (grind arith)

-- ---- what the coder holds

pub states_along : (packets : List (List ℕ)) (g : ℕ) (q : List ℕ) (coder : Coding) → RunsAlong packets g q coder
    → 52 ≤ 4 * g → coder.states ≡ states_since g q packets
unfolding states_since
states_along packets g q coder r l =
    r.states ∙ ap (states_after (4 * g % 312) q) (left_settled r.held g (length packets / 4) packets r.widths l
    (let whole : length packets % 4 ≡ 0 = r.whole in omega (arith, whole)))

pub last_along : (packets : List (List ℕ)) (g : ℕ) (q : List ℕ) (coder : Coding) → RunsAlong packets g q coder
    → 52 ≤ 4 * g → 4 * g < length packets
    → coder.last ≡ last_of (segment (levels_since g q packets) (length packets - 4 * g - 1))
unfolding levels_since
last_along packets g q coder r l m = r.last m
    ∙ ap (λ y. last_of (segment (levels_of (4 * g % 312) q y) (length packets - 4 * g - 1)))
    (left_settled r.held g (length packets / 4) packets r.widths l (grind arith))

-- ---- at the align

no_bytes : (held : Branching) → left_since held 0 [] ≡ []
unfolding left_since coded_from leaving_all
no_bytes held = refl

no_steps : (branches : Branching) → aligned branches ≡ after_all 52 (aligned branches) (coded [])
unfolding coded_from after_all
no_steps branches = refl

-- the number of a number's state
number_again : (n : ℕ) → n < 8 → n ≡ number_of (state_of n)
number_again n l = omega (arith, l)

state_stays : (s : ℕ) (states : List ℕ) (e : ℕ) → coder_after s states [] (276 * groups []) e
    ≡ state_of (get_or states e 0)
unfolding coder_after state_after groups
state_stays s states e = refl

states_stay : (s : ℕ) (states : List ℕ) → AreStates states → states ≡ states_after s states []
unfolding states_after
states_stay s states h = fill_by_all (λ e. number_of (coder_after s states [] (276 * groups []) e)) states 12 0 h.twelve
    (λ e l. number_again (get_or states e 0) (h.small e (grind arith)) ∙ ap number_of (sym (state_stays s states e)))

pub along_begins : (coder : Coding) → AreStates coder.states → HasWidths 52 (spreading 4) coder.branches
    → RunsAlong [] 0 coder.states (aligned_coding coder)
along_begins coder h w = record {
  held = coder.branches;
  widths = w;
  whole = refl;
  begun = omega arith;
  branches = no_steps coder.branches;
  states = states_stay (4 * 0 % 312) coder.states h
      ∙ ap (states_after (4 * 0 % 312) coder.states) (sym (no_bytes coder.branches));
  last = λ m. absurd (omega (arith, m));
}
