-- What an exciter keeps where it begins, and what one packet more makes of it.
use Rattle.std.proofs.Common.{◌≡◌, ℕ, ℤ, ◌<◌, false, Option, Some, None, List, [], ◌∷◌, ◌++◌, length, take, set}
use Rattle.std.proofs.Common.{replicate, refl, sym, ap, subst, ◌∙◌, arith}
use Rattle.std.proofs.lemmas.List.{map-set, take_more_set, length-map}
use Rattle.dtx_packets.specs.declared.packet.Packet.{Packet}
use Rattle.dtx_cadence.specs.declared.anchor.Lock.{Lock}
use Rattle.dtx_cadence.specs.declared.anchor.Seen.{Seen}
use Rattle.dtx_cadence.specs.declared.anchor.Seen.TheVariants.{Free, Start, Lost, At}
use Rattle.dtx_cadence.specs.Anchor as cadence
use Rattle.dtx_laws.specs.Branches.{HasWidths, spreading}
use Rattle.dtx_coder.specs.Groups.{Coding, aligned_coding}
use Rattle.dtx_coder.specs.Runs.{AreStates}
use Rattle.dtx_coder.specs.Along.{RunsAlong}
use Rattle.dtx_coder.proofs.AlongLemmas.{along_begins}
use Rattle.dtx_exciter.specs.declared.exciter.Exciter.{Exciter}
use Rattle.dtx_exciter.specs.declared.answers.Why.TheVariants.{Cadence}
use Rattle.dtx_exciter.specs.declared.answers.Told.{Told}
use Rattle.dtx_exciter.specs.declared.answers.Told.TheVariants.{Quiet, Muted}
use Rattle.dtx_exciter.specs.Packets.{under, last_answer}
use Rattle.dtx_exciter.specs.Emission.{Holds, last_segments, given_under}
use Rattle.dtx_exciter.specs.Step.{bytes_of, IsSame}
use Rattle.dtx_exciter.specs.Kept.{is_served, RunsUnder, KeepsUnder, Keeps, StandsFor, IsTaken, IsJoined, Joins}
use Rattle.dtx_exciter.specs.declared.pages.Pages.{Pages}
use Rattle.dtx_exciter.specs.Pages.{HoldsPages}
use Rattle.dtx_exciter.proofs.HeldPagesLemmas.{nothing_holds}
use Rattle.dtx_exciter.proofs.UnderLemmas.{Goes, Sees, goes_seen, under_nothing, syncs_nothing}
use Rattle.dtx_exciter.proofs.EndsLemmas.{last_single}

-- ---- nothing given

pub stands_nothing : (a d : ℕ) (e : Exciter) → e.address ≡ a → e.delay ≡ d → cadence.StandsFor e.anchor []
    → StandsFor a d e []
stands_nothing a d e x y h = grind (arith, syncs_nothing, under_nothing)

-- ---- the anchor's packet

pub holds_new : (a : ℕ) (p : Pages) → p ≡ record { count = 0; told = replicate 30 false; held = None }
    → HoldsPages a [] p
holds_new a p e = subst (HoldsPages a []) (sym e) (nothing_holds a)

pub keeps_single : (a d : ℕ) (e : Exciter) (packets : List Packet) (packet : Packet) (coder : Coding)
    → e.flushed ≡ false → e.sent ≡ false → HoldsPages a [] e.pages → e.packets ≡ set packets 0 packet
    → 0 < length packets
    → e.coder ≡ aligned_coding coder → AreStates coder.states → HasWidths 52 (spreading 4) coder.branches
    → KeepsUnder a d e (packet.0 ∷ [])
keeps_single a d e packets packet coder flushed sent pages held some coded states widths = record {
  flushed = flushed;
  partial = ap (λ x. take 1 (bytes_of x)) held ∙ ap (take 1) (map-set (λ p. p.0) packets 0 packet)
      ∙ take_more_set (bytes_of packets) 0 packet.0 (let n : length (bytes_of packets)
      ≡ length packets = length-map packets (λ p. p.0) in omega (arith, n, some));
  sent = sent ∙ ap (is_served a d) (sym (last_single packet.0));
  pages = subst (λ r. HoldsPages a r e.pages) (sym (last_single packet.0)) pages;
  coder = subst (λ o. RunsUnder [] o e.coder) (sym (last_single packet.0))
      (coder.states, subst (RunsAlong [] 0 coder.states) (sym coded) (along_begins coder states widths));
}

-- ---- any packet

none_held : (symbols : List ℤ) → Holds [] 0 symbols
none_held symbols = record { counted = refl; begins = refl }

-- by what stands under the anchor with it
pub record Makes (a d : ℕ) (now : Option (List (List ℕ))) (e : Exciter) (anchor : Option Lock) (count : ℕ)
    (symbols : List ℤ) : Type 0 where
  pub address : e.address ≡ a
  pub delay : e.delay ≡ d
  pub anchored : e.anchor ≡ anchor
  pub air : Holds (given_under a d now) count symbols
  pub kept : Keeps a d e now

taken_as : (a d : ℕ) (before : List (List ℕ)) (p : List ℕ) (s : Seen) (anchor : Option Lock)
    (now : Option (List (List ℕ))) (e : Exciter) (answered : Told) (count : ℕ) (symbols : List ℤ)
    → Sees before p s anchor → under (before ++ p ∷ []) ≡ now → answered ≡ last_answer a d (before ++ p ∷ [])
    → Makes a d now e anchor count symbols → IsTaken a d (before ++ p ∷ []) e answered count symbols
unfolding last_segments
taken_as a d before p s anchor now e answered count symbols h u t m = grind arith

-- where there is no anchor
pub taken_free : (a d : ℕ) (old : Exciter) (before : List (List ℕ)) (p : List ℕ) (anchor : Option Lock)
    (symbols : List ℤ) → StandsFor a d old before → Sees before p Free anchor
    → IsTaken a d (before ++ p ∷ []) (record old { anchor = anchor }) Quiet 0 symbols
taken_free a d old before p anchor symbols stood h =
    let g : Goes a d before p Free = goes_seen a d before p Free anchor h in
    taken_as a d before p Free anchor None (record old { anchor = anchor }) Quiet 0 symbols h g.follows (sym g.answer)
    (record { address = stood.address; delay = stood.delay; anchored = refl; air = none_held symbols; kept = tt })

pub taken_lost : (a d : ℕ) (old : Exciter) (before : List (List ℕ)) (p : List ℕ) (anchor : Option Lock)
    (symbols : List ℤ) → StandsFor a d old before → Sees before p Lost anchor
    → IsTaken a d (before ++ p ∷ []) (record old { anchor = anchor }) (Muted Cadence) 0 symbols
taken_lost a d old before p anchor symbols stood h =
    let g : Goes a d before p Lost = goes_seen a d before p Lost anchor h in
    taken_as a d before p Lost anchor None (record old { anchor = anchor }) (Muted Cadence) 0 symbols h g.follows
    (sym g.answer) (grind (arith, none_held))

-- where this packet is the anchor: it is begun with
begun : (a d : ℕ) (old mid e : Exciter) (before : List (List ℕ)) (p : List ℕ) (anchor : Option Lock) (symbols : List ℤ)
    → StandsFor a d old before → mid ≡ record old { anchor = anchor }
    → KeepsUnder mid.address mid.delay e (p ∷ []) → IsSame mid e → Makes a d (Some (p ∷ [])) e anchor 0 symbols
begun a d old mid e before p anchor symbols h m k same = grind (arith, none_held)

pub taken_start : (a d : ℕ) (old mid e : Exciter) (before : List (List ℕ)) (p : List ℕ) (anchor : Option Lock)
    (symbols : List ℤ) → StandsFor a d old before → Sees before p Start anchor → mid ≡ record old { anchor = anchor }
    → KeepsUnder mid.address mid.delay e (p ∷ []) → IsSame mid e → IsTaken a d (before ++ p ∷ []) e Quiet 0 symbols
taken_start a d old mid e before p anchor symbols stood h m k same =
    let g : Goes a d before p Start = goes_seen a d before p Start anchor h in
    taken_as a d before p Start anchor (Some (p ∷ [])) e Quiet 0 symbols h g.follows (sym g.answer)
    (begun a d old mid e before p anchor symbols stood m k same)

pub taken_at : (old mid e : Exciter) (before : List (List ℕ)) (p : List ℕ) (place : ℕ) (anchor : Option Lock)
    (answered : Told) (count : ℕ) (symbols : List ℤ) (a d : ℕ) → StandsFor a d old before
    → Sees before p (At place) anchor → mid ≡ record old { anchor = anchor }
    → Joins place p mid e answered count symbols → IsSame mid e
    → IsTaken a d (before ++ p ∷ []) e answered count symbols
taken_at old mid e before p place anchor answered count symbols a d stood h m j same =
    by_follow (goes_seen a d before p (At place) anchor h)
  where
    of_old : mid.address ≡ a
    of_old = ap (λ (x : Exciter). x.address) m ∙ stood.address

    delay_old : mid.delay ≡ d
    delay_old = ap (λ (x : Exciter). x.delay) m ∙ stood.delay

    by_join : (l : List (List ℕ)) → under (before ++ p ∷ []) ≡ Some (l ++ p ∷ []) → Goes a d before p (At place)
        → IsJoined a d (l ++ p ∷ []) e answered count symbols → IsTaken a d (before ++ p ∷ []) e answered count symbols
    by_join l u g w = taken_as a d before p (At place) anchor (Some (l ++ p ∷ [])) e answered count symbols h u
        (grind arith) (grind (arith, of_old, delay_old))

    by_follow : Goes a d before p (At place) → IsTaken a d (before ++ p ∷ []) e answered count symbols
    by_follow g =
        let l : List (List ℕ) = g.follows.0 in
        by_join l g.follows.2 g (grind (arith, of_old, delay_old))
