-- What an anchor keeps and answers, one sync byte further.
use Rattle.std.proofs.Common.{◌≡◌, ℕ, ◌+◌, ◌-◌, ◌%◌, ◌<◌, ◌==◌, Bool, true, false, not, cond, Option, Some, None}
use Rattle.std.proofs.Common.{option_map, List, [], ◌∷◌, ◌++◌, length, refl, sym, ap, ◌∙◌, arith}
use Rattle.std.proofs.lemmas.Bool.{eqb-true, eqb-false}
use Rattle.std.proofs.lemmas.List.{length_push}
use Rattle.dtx_cadence.specs.declared.anchor.Lock.{Lock}
use Rattle.dtx_cadence.specs.declared.anchor.Seen.TheVariants.{Free, Start, Lost, At}
use Rattle.dtx_cadence.specs.Anchor.{has_mark, anchor, is_missed, seen_by, seen, lock, StandsFor, first_lock, is_lost}
use Rattle.dtx_cadence.specs.Anchor.{moved_on, kept_after, answer}
use Rattle.dtx_cadence.proofs.NextAnchorLemmas.{ends_with, anchor_free, anchor_next, anchor_below}
use Rattle.dtx_cadence.proofs.NextAnchorLemmas.{mark_push, front_alike}

-- what is kept of n sync bytes under an anchor at j
abbrev under : List ℕ → ℕ → ℕ → Lock
under d n j = record { place = (n - j) % 624; missed = is_missed d n j }

abbrev kept_of : List ℕ → ℕ → Option ℕ → Option Lock
kept_of d n o = option_map (under d n) o

-- behind the anchor's own packet
place_new : (n : ℕ) → 1 ≡ (n + 1 - n) % 624
place_new n = omega arith

due_new : (n : ℕ) → n + 1 - 1 - (n + 1 - 1 - n) % 624 ≡ n
due_new n = omega arith

kept_new : (d : List ℕ) (s : ℕ) (b : Bool) → (s == 0xB8) ≡ b
    → cond b (Some first_lock) None ≡ kept_of (d ++ s ∷ []) (length d + 1) (cond b (Some (length d)) None)
kept_new d s true e = grind (arith, place_new, due_new, mark_push)
kept_new d s false e = refl

-- behind a packet with which the anchor stays
place_more : (n j : ℕ) → j < n → ((n - j) % 624 + 1) % 624 ≡ (n + 1 - j) % 624
place_more n j l = omega arith

missed_due : (d : List ℕ) (s j : ℕ) → j < length d → (length d - j) % 624 ≡ 0
    → not (s == 0xB8) ≡ is_missed (d ++ s ∷ []) (length d + 1) j
missed_due d s j l e = sym (ap (λ i. not (has_mark (d ++ s ∷ []) i)) (omega (arith, l, e)) ∙ ap not (mark_push d s))

missed_on : (d : List ℕ) (s j : ℕ) (f : (length d - j) % 624 ≡ 0 → ⊥) → j < length d
    → is_missed d (length d) j ≡ is_missed (d ++ s ∷ []) (length d + 1) j
missed_on d s j f l = grind (arith, front_alike)

moved : (d : List ℕ) (s j : ℕ) → j < length d
    → moved_on (under d (length d) j) (s == 0xB8) ≡ under (d ++ s ∷ []) (length d + 1) j
moved d s j l = grind (arith, place_more, missed_due, eqb-true, missed_on, eqb-false)

-- the packet takes the anchor away where the lock says so
lost_same : (d : List ℕ) (s j : ℕ) → j < length d → is_lost (under d (length d) j) (s == 0xB8) ≡ ends_with d s j
lost_same d s j l = grind (arith, eqb-true)

kept_stays : (d : List ℕ) (s j : ℕ) (b : Bool) → j < length d
    → cond b None (Some (moved_on (under d (length d) j) (s == 0xB8)))
    ≡ kept_of (d ++ s ∷ []) (length d + 1) (cond b None (Some j))
kept_stays d s j true l = refl
kept_stays d s j false l = ap Some (moved d s j l)

kept_by_anchor : (d : List ℕ) (s : ℕ) (o : Option ℕ) → anchor d ≡ o
    → kept_after (kept_of d (length d) o) s ≡ kept_of (d ++ s ∷ []) (length d + 1) (anchor (d ++ s ∷ []))
kept_by_anchor d s None h = grind (arith, kept_new, anchor_free)
kept_by_anchor d s (Some j) h = ap (λ b. cond b None (Some (moved_on (under d (length d) j) (s == 0xB8))))
    (lost_same d s j (anchor_below d j h)) ∙ kept_stays d s j (ends_with d s j) (anchor_below d j h)
    ∙ ap (kept_of (d ++ s ∷ []) (length d + 1)) (sym (anchor_next d s j h))

pub stands_next : (kept : Option Lock) (d : List ℕ) (s : ℕ) → StandsFor kept d
    → StandsFor (kept_after kept s) (d ++ s ∷ [])
unfolding lock
stands_next kept d s h = rw (h, kept_by_anchor d s (anchor d) refl, ← length_push d s)

-- ---- the answer

seen_new : (n : ℕ) (b : Bool) → cond b Start Free ≡ seen_by n None (cond b (Some n) None)
seen_new n true = refl
seen_new n false = refl

seen_stays : (n j : ℕ) (b : Bool) → cond b Lost (At ((n - j) % 624)) ≡ seen_by n (Some j) (cond b None (Some j))
seen_stays n j true = refl
seen_stays n j false = refl

seen_by_anchor : (d : List ℕ) (s : ℕ) (o : Option ℕ) → anchor d ≡ o
    → answer (kept_of d (length d) o) s ≡ seen_by (length d) o (anchor (d ++ s ∷ []))
seen_by_anchor d s None h = seen_new (length d) (s == 0xB8) ∙ ap (seen_by (length d) None) (sym (anchor_free d s h))
seen_by_anchor d s (Some j) h = grind (arith, anchor_below, lost_same, seen_stays, ends_with, anchor_next)

pub seen_next : (kept : Option Lock) (d : List ℕ) (s : ℕ) → StandsFor kept d → answer kept s ≡ seen d s
unfolding lock seen
seen_next kept d s h = ap (λ o. answer o s) h ∙ seen_by_anchor d s (anchor d) refl
