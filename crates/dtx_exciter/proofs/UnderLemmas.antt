-- The packets from the anchor on, over one packet more.
use Rattle.std.proofs.Common.{◌≡◌, ℕ, ◌-◌, ◌%◌, ◌<◌, ◌==◌, Bool, true, false, cond, Option, Some, None, option_map}
use Rattle.std.proofs.Common.{List, [], ◌∷◌, ◌++◌, length, drop, refl, sym, ap, subst, ◌∙◌, arith}
use Rattle.std.proofs.lemmas.List.{length_push, length-drop, map-append, length-map, drop_at, drop-append-le, drop-map}
use Rattle.std.proofs.lemmas.List.{take_at}
use Rattle.dtx_packets.specs.Packets.{sync_of}
use Rattle.dtx_cadence.specs.declared.anchor.Lock.{Lock}
use Rattle.dtx_cadence.specs.declared.anchor.Seen.{Seen}
use Rattle.dtx_cadence.specs.declared.anchor.Seen.TheVariants.{Free, Start, Lost, At}
use Rattle.dtx_cadence.specs.Anchor.{StandsFor, anchor_to, anchor, seen_by, seen}
use Rattle.dtx_cadence.proofs.NextAnchorLemmas.{new_anchor, ends_with, anchor_free, anchor_next, anchor_below}
use Rattle.dtx_exciter.specs.declared.answers.Why.TheVariants.{Cadence}
use Rattle.dtx_exciter.specs.declared.answers.Told.{Told}
use Rattle.dtx_exciter.specs.declared.answers.Told.TheVariants.{Quiet, Muted}
use Rattle.dtx_exciter.specs.Told.{was_lost, told_under, told_of}
use Rattle.dtx_exciter.specs.Packets.{syncs, reads, readings, anchor_of, under, last_answer}

-- ---- nothing given

pub under_nothing : under [] ≡ None
unfolding under anchor_of syncs anchor anchor_to
under_nothing = refl

pub syncs_nothing : [] ≡ syncs []
unfolding syncs
syncs_nothing = refl

-- ---- lists one packet longer

pub syncs_push : (d : List (List ℕ)) (p : List ℕ) → syncs (d ++ p ∷ []) ≡ syncs d ++ sync_of p ∷ []
unfolding syncs
syncs_push d p = map-append sync_of d (p ∷ [])

pub length-syncs : (d : List (List ℕ)) → length (syncs d) ≡ length d
unfolding syncs
length-syncs d = length-map d sync_of

pub said_append : (d e : List (List ℕ)) → readings (d ++ e) ≡ readings d ++ readings e
unfolding readings
said_append d e = map-append reads d e

pub length-said : (d : List (List ℕ)) → length (readings d) ≡ length d
unfolding readings
length-said d = length-map d reads

pub said_drop : (n : ℕ) (d : List (List ℕ)) → drop n (readings d) ≡ readings (drop n d)
unfolding readings
said_drop n d = drop-map reads n d

-- ---- what the anchor says of one packet more

-- the packets from the anchor on before and with the packet p
abbrev pub Follows : Seen → List ℕ → Option (List (List ℕ)) → Option (List (List ℕ)) → Type 0
Follows Free p before now = now ≡ None
Follows Start p before now = now ≡ Some (p ∷ [])
Follows Lost p before now = now ≡ None
Follows (At place) p before now = (l : List (List ℕ)) × (before ≡ Some l) × (now ≡ Some (l ++ p ∷ []))
    × (place ≡ length l % 624)

-- the answer with the packet p
abbrev pub told_seen : ℕ → ℕ → Seen → Option (List (List ℕ)) → Told
told_seen address delay Free now = Quiet
told_seen address delay Start now = Quiet
told_seen address delay Lost now = Muted Cadence
told_seen address delay (At place) now = told_under address delay (option_map readings now)

pub record Goes (address delay : ℕ) (d : List (List ℕ)) (p : List ℕ) (s : Seen) : Type 0 where
  pub follows : Follows s p (under d) (under (d ++ p ∷ []))
  pub answer : last_answer address delay (d ++ p ∷ []) ≡ told_seen address delay s (under (d ++ p ∷ []))

-- the packets and the answer by the anchors before and with the packet
unfoldable rest : List (List ℕ) → Option ℕ → Option (List (List ℕ))
rest d o = option_map (λ a. drop a d) o

under_by : (d : List (List ℕ)) (o : Option ℕ) → anchor_of d ≡ o → under d ≡ rest d o
unfolding under rest
under_by d o h = ap (λ x. option_map (λ a. drop a d) x) h

told_by_anchors : (address delay : ℕ) (d : List (List ℕ)) (p : List ℕ) (before now : Option ℕ) → anchor_of d ≡ before
    → anchor_of (d ++ p ∷ []) ≡ now
    → last_answer address delay (d ++ p ∷ []) ≡ cond (was_lost before now) (Muted Cadence)
    (told_under address delay (option_map readings (rest (d ++ p ∷ []) now)))
unfolding last_answer told_of anchor_of rest
told_by_anchors address delay d p before now b n = grind (arith, syncs_push, length_push, take_at, said_drop)

single : (d : List (List ℕ)) (p : List ℕ) → rest (d ++ p ∷ []) (Some (length d)) ≡ Some (p ∷ [])
unfolding rest
single d p = ap Some (drop_at d (p ∷ []) (length d) refl)

nothing : (d : List (List ℕ)) → rest d None ≡ None
unfolding rest
nothing d = refl

here : (d : List (List ℕ)) (j : ℕ) → rest d (Some j) ≡ Some (drop j d)
unfolding rest
here d j = refl

longer : (d : List (List ℕ)) (p : List ℕ) (j : ℕ) → j < length d
    → rest (d ++ p ∷ []) (Some j) ≡ Some (drop j d ++ p ∷ [])
unfolding rest
longer d p j l = ap Some (drop-append-le j d (p ∷ []) (omega arith))

goes_new : (address delay : ℕ) (d : List (List ℕ)) (p : List ℕ) (b : Bool) → anchor_of d ≡ None
    → anchor_of (d ++ p ∷ []) ≡ cond b (Some (length d)) None
    → Goes address delay d p (seen_by (length d) None (cond b (Some (length d)) None))
unfolding readings
goes_new address delay d p true h e = record {
  follows = under_by (d ++ p ∷ []) (Some (length d)) e ∙ single d p;
  answer = told_by_anchors address delay d p None (Some (length d)) h e
      ∙ ap (λ o. told_under address delay (option_map readings o)) (single d p) ∙ refl;
}
goes_new address delay d p false h e = record {
  follows = under_by (d ++ p ∷ []) None e ∙ nothing (d ++ p ∷ []);
  answer = rw (told_by_anchors address delay d p None None h e, nothing (d ++ p ∷ []));
}

pub goes_on : (address delay : ℕ) (d : List (List ℕ)) (p : List ℕ) (j : ℕ) → j < length d → anchor_of d ≡ Some j
    → anchor_of (d ++ p ∷ []) ≡ Some j → Goes address delay d p (At ((length d - j) % 624))
goes_on address delay d p j l h e = record {
  follows = (
    drop j d,
    under_by d (Some j) h ∙ here d j,
    under_by (d ++ p ∷ []) (Some j) e ∙ longer d p j l,
    ap (λ (n : ℕ). n % 624) (sym (length-drop j d)),
  );
  answer = rw (told_by_anchors address delay d p (Some j) (Some j) h e, ← under_by (d ++ p ∷ []) (Some j) e);
}

goes_lost : (address delay : ℕ) (d : List (List ℕ)) (p : List ℕ) (j : ℕ) → anchor_of d ≡ Some j
    → anchor_of (d ++ p ∷ []) ≡ None → Goes address delay d p Lost
goes_lost address delay d p j h e = record {
  follows = under_by (d ++ p ∷ []) None e ∙ nothing (d ++ p ∷ []);
  answer = told_by_anchors address delay d p (Some j) None h e;
}

goes_by_test : (address delay : ℕ) (d : List (List ℕ)) (p : List ℕ) (j : ℕ) (t : Bool) → j < length d
    → anchor_of d ≡ Some j → anchor_of (d ++ p ∷ []) ≡ cond t None (Some j)
    → Goes address delay d p (seen_by (length d) (Some j) (cond t None (Some j)))
goes_by_test address delay d p j true l h e = goes_lost address delay d p j h e
goes_by_test address delay d p j false l h e = goes_on address delay d p j l h e

new_anchor_is : (d : List (List ℕ)) (p : List ℕ)
    → new_anchor (syncs d) (sync_of p) ≡ cond (sync_of p == 0xB8) (Some (length d)) None
new_anchor_is d p = ap (λ (n : ℕ). cond (sync_of p == 0xB8) (Some n) None) (length-syncs d)

pub goes : (address delay : ℕ) (d : List (List ℕ)) (p : List ℕ) → Goes address delay d p (seen (syncs d) (sync_of p))
unfolding seen anchor_of
goes address delay d p = by_anchor (anchor (syncs d)) refl
  where
    below : (j : ℕ) → anchor (syncs d) ≡ Some j → j < length d
    below j h = let a : j < length (syncs d) = anchor_below (syncs d) j h in omega (arith, a, length-syncs d)

    by_anchor : (o : Option ℕ) → anchor (syncs d) ≡ o → Goes address delay d p (seen (syncs d) (sync_of p))
    by_anchor None h =
        let e : anchor (syncs d ++ sync_of p ∷ []) ≡ cond (sync_of p == 0xB8) (Some (length d)) None =
        anchor_free (syncs d) (sync_of p) h ∙ new_anchor_is d p in
        subst (Goes address delay d p) (sym (grind (arith, length-syncs)))
        (goes_new address delay d p (sync_of p == 0xB8) (h) ((ap anchor (syncs_push d p)) ∙ e))
    by_anchor (Some j) h =
        let t : Bool = ends_with (syncs d) (sync_of p) j in
        let e : anchor (syncs d ++ sync_of p ∷ []) ≡ cond t None (Some j) = anchor_next (syncs d) (sync_of p) j h in
        subst (Goes address delay d p) (sym (grind (arith, length-syncs)))
        (goes_by_test address delay d p j t (below j h) (h) ((ap anchor (syncs_push d p)) ∙ e))

-- ---- what is seen of a packet

-- and the anchor behind it
pub record Sees (before : List (List ℕ)) (p : List ℕ) (s : Seen) (lock : Option Lock) : Type 0 where
  pub saw : s ≡ seen (syncs before) (sync_of p)
  pub stands : StandsFor lock (syncs (before ++ p ∷ []))

pub sees : (before : List (List ℕ)) (p : List ℕ) (sync : ℕ) (s : Seen) (lock : Option Lock) → sync ≡ sync_of p
    → s ≡ seen (syncs before) sync → StandsFor lock (syncs before ++ sync ∷ []) → Sees before p s lock
sees before p sync s lock is saw stands = record {
  saw = saw ∙ ap (seen (syncs before)) is;
  stands = subst (StandsFor lock) (ap (λ x. syncs before ++ x ∷ []) is ∙ sym (syncs_push before p)) stands;
}

pub goes_seen : (address delay : ℕ) (before : List (List ℕ)) (p : List ℕ) (s : Seen) (lock : Option Lock)
    → Sees before p s lock → Goes address delay before p s
goes_seen address delay before p s lock h =
    subst (Goes address delay before p) (sym h.saw) (goes address delay before p)
