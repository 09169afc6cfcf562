-- A sound feed, from any of its marks on, is a calm one.
use Rattle.std.proofs.Common.{◌≡◌, ℕ, ◌+◌, ◌-◌, ◌%◌, ◌<◌, ◌==◌, Some, List, [], length, drop, refl, ap, ◌∙◌, arith}
use Rattle.std.specs.List.{AllByRecursion}
use Rattle.std.proofs.lemmas.List.{get_or-drop, get_or-map, length-drop, take_all}
use Rattle.dtx_packets.specs.Packets.{sync_of}
use Rattle.dtx_cadence.specs.Anchor.{anchor}
use Rattle.dtx_cadence.proofs.AnchoredLemmas.{anchored}
use Rattle.dtx_cadence.specs.Cadence.{IsAnchored, IsMarked}
use Rattle.dtx_exciter.specs.Packets.{anchor_of, syncs}
use Rattle.dtx_exciter.proofs.UnderLemmas.{length-syncs}
use Rattle.dtx_watch.specs.Sound.{IsCalmAt, IsSoundFeed}
use Rattle.dtx_watch.proofs.SoundLemmas.{calm}
use Rattle.dtx_watch.specs.Watch.{notes_at}
use Rattle.dtx_calm_feed.specs.Calm.{IsCalmFeed, IsCalmNote}
use Rattle.dtx_calm_feed.proofs.Noted.{all_both}

marked : (start most mark : ℕ) (f : List (List ℕ)) → IsSoundFeed start most f → mark % 624 ≡ 0
    → IsMarked (syncs (drop mark f))
unfolding syncs
marked start most mark f s z = λ k l.
    let w : k < length (drop mark f) = omega (arith, l, length-syncs (drop mark f)) in
    let same : (mark + k) % 624 ≡ k % 624 = omega (arith, z) in
    ap (λ (b : ℕ). b == 0xB8) (get_or-map sync_of (drop mark f) k [] 0 w ∙ ap sync_of (get_or-drop mark f k []))
    ∙ s.marks (mark + k) (omega (arith, w, length-drop mark f)) ∙ ap (λ (n : ℕ). n == 0) same

anchor_is : (start most mark : ℕ) (f : List (List ℕ)) → IsSoundFeed start most f → mark % 624 ≡ 0 → mark < length f
    → anchor_of (drop mark f) ≡ Some 0
unfolding anchor_of
anchor_is start most mark f s z l =
    let e : List ℕ = syncs (drop mark f) in
    let long : length e ≡ length f - mark = length-syncs (drop mark f) ∙ length-drop mark f in
    let none : (j : ℕ) → anchor [] ≡ Some j → (length {A = ℕ} [] - j) % 624 ≡ 0 = λ j g. omega arith in
    let a : IsAnchored [] e 0 = anchored [] e (marked start most mark f s z) (omega (arith, l, long)) none in
    let w = a.within in
    let first : a.place ≡ 0 = omega (arith, w) in
    ap anchor (grind (arith, take_all)) ∙ a.holds (length e - 1) (omega arith) (omega (arith, l, long)) ∙ ap Some first

pub sound_is_calm : (start most mark : ℕ) (f : List (List ℕ)) → IsSoundFeed start most f → mark % 624 ≡ 0
    → mark < length f → IsCalmFeed (drop mark f)
sound_is_calm start most mark f s z l = record {
  anchor_is = anchor_is start most mark f s z l;
  calm = λ k m. calm_at k (calm start most f (drop mark f) mark k (record {
    sound = s;
    mark = z;
    inside = l;
    are = refl;
  }) m);
}
  where
    calm_at : (k : ℕ) → IsCalmAt (drop mark f) k → AllByRecursion IsCalmNote (notes_at (drop mark f) k)
    calm_at k c = grind (arith, all_both)
