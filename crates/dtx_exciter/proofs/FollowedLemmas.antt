-- An exciter behind a feed's mark: the packets under its anchor, what it gives, and what it answers.
use Rattle.std.proofs.Common.{◌≡◌, ◌≢◌, ℕ, ℤ, ◌+◌, ◌-◌, ◌%◌, ◌<◌, ◌≤◌, ◌==◌, Some, List, [], ◌∷◌, ◌++◌, length, take}
use Rattle.std.proofs.Common.{drop, get_or, sym, ap, ◌∙◌, arith}
use Rattle.std.proofs.lemmas.Bool.{cond-false, ne_eqb}
use Rattle.std.proofs.lemmas.List.{append_assoc, get_or-drop, get_or-map, get_or-take, length-append, length-drop}
use Rattle.std.proofs.lemmas.List.{length-map, length-take-le, drop-append-le, take-map, take-take, take_more}
use Rattle.std.proofs.lemmas.List.{map-append}
use Rattle.dtx_packets.specs.Packets.{sync_of}
use Rattle.dtx_cadence.specs.Anchor.{anchor}
use Rattle.dtx_exciter.specs.declared.answers.Told.TheVariants.{Quiet}
use Rattle.dtx_exciter.specs.Told.{told_under}
use Rattle.dtx_exciter.specs.Packets.{syncs, readings, anchor_of, under, last_answer}
use Rattle.dtx_exciter.specs.Emission.{last_segments, given_under}
use Rattle.dtx_exciter.specs.Lockstep.{IsFeed}
use Rattle.dtx_cadence.proofs.AnchoredLemmas.{anchored}
use Rattle.dtx_cadence.specs.Cadence.{IsMarked, IsInStep, IsAnchored}
use Rattle.dtx_exciter.proofs.UnderLemmas.{length-syncs, length-said, goes_on}
use Rattle.dtx_exciter.proofs.InLifeLemmas.{life, length-life}

-- ---- the anchor

pub marked_part : (a d : ℕ) (z : ℤ) (feed : List (List ℕ)) (mark n : ℕ) → IsFeed a d z feed → mark % 624 ≡ 0
    → mark + n ≤ length feed → IsMarked (syncs (take n (drop mark feed)))
unfolding syncs
marked_part a d z feed mark n f m l = λ i h.
    let small : i < n = grind (arith, length-map, length-take-le, length-drop) in
    ap (λ x. x == 0xB8) (grind (arith, get_or-map, length-map, get_or-take, get_or-drop))
    ∙ f.marks (mark + i) (omega (arith, l, small)) ∙ ap (λ (k : ℕ). k == 0) (omega (arith, m))

pub syncs_append : (xs ys : List (List ℕ)) → syncs (xs ++ ys) ≡ syncs xs ++ syncs ys
unfolding syncs
syncs_append xs ys = map-append sync_of xs ys

-- after j packets of the feed
abbrev pub after : List (List ℕ) → List (List ℕ) → ℕ → ℕ → List (List ℕ)
after earlier feed mark j = earlier ++ take j (drop mark feed)

pub after_more : (earlier feed : List (List ℕ)) (mark j : ℕ) → mark + j < length feed
    → after earlier feed mark (j + 1) ≡ after earlier feed mark j ++ get_or (drop mark feed) j [] ∷ []
after_more earlier feed mark j l = grind (arith, take_more, length-drop, append_assoc)

-- the packets under the anchor from the feed's mark on, where nothing was locked before it or a lock in step
pub record Follows (earlier feed : List (List ℕ)) (mark n : ℕ) : Type 0 where
  pub base : List (List ℕ)
  pub in_step : length base % 624 ≡ 0
  pub place : ℕ
  pub before : place ≤ length earlier
  pub steps : (length earlier - place) % 624 ≡ 0
  pub anchors : (j : ℕ) → j < n → anchor_of (after earlier feed mark (j + 1)) ≡ Some place
  pub holds : (j : ℕ) → j < n → under (after earlier feed mark (j + 1)) ≡ Some (life base feed mark (j + 1))

pub follows : (a d : ℕ) (z : ℤ) (earlier feed : List (List ℕ)) (mark n : ℕ) → IsFeed a d z feed → mark % 624 ≡ 0
    → mark + n ≤ length feed → 0 < n → IsInStep (syncs earlier) → Follows earlier feed mark n
unfolding under anchor_of syncs
follows a d z earlier feed mark n f m l s t = by_anchor (grind (arith, anchored, marked_part, long))
  where
    long : length (syncs (take n (drop mark feed))) ≡ n
    long = length-syncs (take n (drop mark feed))
        ∙ length-take-le n (drop mark feed) (omega (arith, l, length-drop mark feed))

    by_anchor : IsAnchored (syncs earlier) (syncs (take n (drop mark feed))) 0 → Follows earlier feed mark n
    by_anchor w =
        let within : w.place ≤ length earlier = let x = w.within in omega (arith, x, length-syncs earlier) in
        let steps = w.steps in
        let anchors : (j : ℕ) → j < n → anchor (syncs (after earlier feed mark (j + 1))) ≡ Some w.place = λ j h.
        ap anchor (grind (arith, syncs_append, take-map, take-take))
        ∙ w.holds j (omega arith) (omega (arith, h, long)) in
        record {
          base = drop w.place earlier;
          in_step = omega (arith, steps, length-drop w.place earlier, length-syncs earlier);
          place = w.place;
          before = within;
          steps = omega (arith, steps, length-syncs earlier);
          anchors = anchors;
          holds = λ j h. grind (arith, drop-append-le);
        }

pub given_is : (a d : ℕ) (earlier feed : List (List ℕ)) (mark n j : ℕ) → (w : Follows earlier feed mark n) → j < n
    → last_segments a d (earlier ++ take (j + 1) (drop mark feed))
    ≡ given_under a d (Some (life w.base feed mark (j + 1)))
unfolding last_segments
given_is a d earlier feed mark n j w l = ap (given_under a d) (w.holds j l)

-- a packet that ends no group gives nothing
pub given_none : (a d : ℕ) (earlier feed : List (List ℕ)) (mark n j : ℕ) → (w : Follows earlier feed mark n)
    → mark + n ≤ length feed → j < n → j % 4 ≢ 3 → last_segments a d (earlier ++ take (j + 1) (drop mark feed)) ≡ []
given_none a d earlier feed mark n j w h l m =
    let s = w.in_step in
    given_is a d earlier feed mark n j w l ∙ cond-false (length (life w.base feed mark (j + 1)) % 4 == 0) _ _
    (ne_eqb (length (life w.base feed mark (j + 1)) % 4) 0 (λ z. m (grind (arith, length-life))))

-- ---- the answer

-- The anchor stays.
pub told_is : (a d : ℕ) (earlier feed : List (List ℕ)) (mark n j : ℕ) → (w : Follows earlier feed mark n)
    → mark + n ≤ length feed → 0 < j → j < n
    → last_answer a d (after earlier feed mark (j + 1)) ≡ told_under a d (Some (readings (life w.base feed mark
    (j + 1))))
told_is a d earlier feed mark n j w h s l =
    let e : j - 1 + 1 ≡ j = omega arith in
    let more = after_more earlier feed mark j (omega (arith, h, l)) in
    let b = w.before in
    let before : anchor_of (after earlier feed mark j) ≡ Some w.place =
    ap (λ k. anchor_of (after earlier feed mark k)) (sym e) ∙ w.anchors (j - 1) (omega (arith, s, l)) in
    ap (last_answer a d) more ∙ grind (arith, goes_on, length-append, length-take-le, length-drop)

-- a packet that ends no group is answered with nothing
pub told_none : (a d : ℕ) (earlier feed : List (List ℕ)) (mark n j : ℕ) → (w : Follows earlier feed mark n)
    → mark + n ≤ length feed → 0 < j → j < n → j % 4 ≢ 3 → last_answer a d (after earlier feed mark (j + 1)) ≡ Quiet
told_none a d earlier feed mark n j w h s l m =
    let b = w.in_step in
    told_is a d earlier feed mark n j w h s l
    ∙ cond-false (length (readings (life w.base feed mark (j + 1))) % 4 == 0) _ _
    (grind (arith, ne_eqb, life, length-said, length-life))
