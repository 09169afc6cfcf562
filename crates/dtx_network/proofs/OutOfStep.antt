-- A lost anchor mutes; and an anchor is lost by two marks that are due in a row and missing, or where it is out of step
-- with a feed, before the third mark of it.
use Rattle.std.proofs.Common.{◌≡◌, ◌⊎◌, inl, inr, ℕ, ℤ, zero, suc, ◌+◌, ◌-◌, ◌%◌, ◌<◌, ◌≤◌, ◌==◌, Bool, true, false}
use Rattle.std.proofs.Common.{cond, Some, None, List, [], ◌∷◌, ◌++◌, length, get_or, take, drop, refl, sym, ap, ap₂}
use Rattle.std.proofs.Common.{subst, ◌∙◌, arith, slice_range, append-nil, length-append, length-drop, length-take-le}
use Rattle.std.proofs.Common.{take_at}
use Rattle.std.proofs.lemmas.Bool.{cond-true, eqb-false}
use Rattle.std.proofs.lemmas.List.{length_push}
use Rattle.dtx_packets.specs.Packets.{sync_of}
use Rattle.dtx_cadence.specs.Anchor.{has_mark}
use Rattle.dtx_cadence.specs.Cadence.{IsInStep}
use Rattle.dtx_cadence.proofs.AnchoredLemmas.{two_missing}
use Rattle.dtx_cadence.proofs.NextAnchorLemmas.{anchor_below, anchor_next, ends_with}
use Rattle.dtx_exciter.specs.declared.answers.Told.TheVariants.{Muted}
use Rattle.dtx_exciter.specs.declared.answers.Why.TheVariants.{Cadence}
use Rattle.dtx_exciter.proofs.FollowedLemmas.{after, after_more}
use Rattle.dtx_exciter.proofs.LockedLemmas.{locked_third}
use Rattle.dtx_exciter.specs.Lockstep.{IsFeed}
use Rattle.dtx_exciter.specs.Packets.{anchor_of, syncs, last_answer}
use Rattle.dtx_exciter.specs.Told.{was_lost, told_of}
use Rattle.dtx_exciter.proofs.UnderLemmas.{syncs_push, length-syncs}

-- a packet with which the anchor is lost
pub lost_mutes : (address delay : ℕ) (d : List (List ℕ)) (p : List ℕ)
    → was_lost (anchor_of d) (anchor_of (d ++ p ∷ [])) ≡ true → last_answer address delay (d ++ p ∷ []) ≡ Muted Cadence
unfolding last_answer told_of anchor_of
lost_mutes address delay d p m =
    let shorter : length (syncs (d ++ p ∷ [])) - 1 ≡ length (syncs d) =
    omega (arith, ap length (syncs_push d p), length_push (syncs d) (sync_of p)) in
    let front : take (length (syncs (d ++ p ∷ [])) - 1) (syncs (d ++ p ∷ [])) ≡ syncs d =
    ap₂ take shorter (syncs_push d p) ∙ take_at (syncs d) (sync_of p ∷ []) (length (syncs d)) refl in
    simp (front, cond-true)

-- two marks in a row that are due and missing
pub two_missing_lose : (d : List (List ℕ)) (p : List ℕ) (j : ℕ) → anchor_of d ≡ Some j → (length d - j) % 624 ≡ 0
    → (sync_of p == 0xB8) ≡ false → has_mark (syncs d) (length d - 624) ≡ false
    → was_lost (anchor_of d) (anchor_of (d ++ p ∷ [])) ≡ true
unfolding anchor_of
two_missing_lose d p j h e m g = grind (arith, syncs_push, two_missing, length-syncs)

-- ---- out of step with a feed

-- With one of the first n packets of a feed that it is given, an exciter's anchor is lost.
abbrev pub IsLostWithin : List (List ℕ) → List (List ℕ) → ℕ → ℕ → Type 0
IsLostWithin earlier feed mark n = (m : ℕ) × (m < n)
    × (was_lost (anchor_of (after earlier feed mark m)) (anchor_of (after earlier feed mark (m + 1))) ≡ true)

-- until then it stays
stays_or_lost : (earlier feed : List (List ℕ)) (mark j n : ℕ) → anchor_of earlier ≡ Some j → mark + n ≤ length feed
    → IsLostWithin earlier feed mark n ⊎ (anchor_of (after earlier feed mark n) ≡ Some j)
unfolding anchor_of
stays_or_lost earlier feed mark j zero h l = inr (ap anchor_of (append-nil earlier) ∙ h)
stays_or_lost earlier feed mark j (suc n) h l = elim (stays_or_lost earlier feed mark j n h (omega (arith, l))) [
  | inl w ↦ let m = w.1 in inl (w.0, omega (arith, m), w.2)
  | inr e ↦ by_test (ends_with (syncs d) (sync_of p) j) e (next e)
]
  where
    d : List (List ℕ)
    d = after earlier feed mark n

    p : List ℕ
    p = get_or (drop mark feed) n []

    one : n + 1 ≡ suc n
    one = omega arith

    next : anchor_of d ≡ Some j → anchor_of (after earlier feed mark (n + 1))
        ≡ cond (ends_with (syncs d) (sync_of p) j) None (Some j)
    next e = grind (arith, after_more, syncs_push, anchor_next)

    by_test : (t : Bool) → anchor_of d ≡ Some j → anchor_of (after earlier feed mark (n + 1)) ≡ cond t None (Some j)
        → IsLostWithin earlier feed mark (suc n) ⊎ (anchor_of (after earlier feed mark (suc n)) ≡ Some j)
    by_test true e g = inl (n, omega arith, ap₂ was_lost e g)
    by_test false e g = inr (ap (λ k. anchor_of (after earlier feed mark k)) (sym one) ∙ g)

-- an anchor that stays up to the third mark is in step
third_in_step : (a d : ℕ) (y : ℤ) (earlier feed : List (List ℕ)) (mark j : ℕ) → IsFeed a d y feed → mark % 624 ≡ 0
    → mark + 1248 ≤ length feed → anchor_of earlier ≡ Some j
    → anchor_of (after earlier feed mark 1248) ≡ Some j → (length earlier - j) % 624 ≡ 0
unfolding anchor_of
third_in_step a d y earlier feed mark j f m l h e =
    let two_frames : mark + 1248 - mark ≡ 1248 = omega arith in
    let at = subst (λ (n : ℕ). IsInStep (syncs (after earlier feed mark n))) two_frames
    (locked_third a d y earlier feed mark f m l).in_step j e in
    omega (
      arith,
      at,
      (anchor_below (syncs earlier) j h),
      length-syncs earlier,
      length-syncs (after earlier feed mark 1248),
      length-append earlier (take 1248 (drop mark feed)),
      length-take-le 1248 (drop mark feed) (omega (arith, l, length-drop mark feed)),
    )

pub lost_before_third : (a d : ℕ) (y : ℤ) (feed earlier : List (List ℕ)) (mark j : ℕ) → IsFeed a d y feed
    → mark % 624 ≡ 0 → mark + 1248 ≤ length feed → anchor_of earlier ≡ Some j
    → ((length earlier - j) % 624 == 0) ≡ false
    → (m : ℕ) × (m < 1248) × (last_answer a d (earlier ++ slice_range feed mark (mark + m + 1)) ≡ Muted Cadence)
lost_before_third a d y feed earlier mark j f m l h out = elim (stays_or_lost earlier feed mark j 1248 h l) [
  | inl w ↦ grind (arith, after_more, lost_mutes, after)
  | inr e ↦ absurd (eqb-false ((length earlier - j) % 624) 0 out (third_in_step a d y earlier feed mark j f m l h e))
]
