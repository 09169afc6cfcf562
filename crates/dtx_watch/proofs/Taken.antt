-- What one packet more makes of a watcher.
use Rattle.std.proofs.Common.{◌≡◌, ℕ, suc, ◌+◌, ◌-◌, ◌%◌, ◌<◌, Option, Some, None, List, [], ◌∷◌, ◌++◌, length, refl}
use Rattle.std.proofs.Common.{sym, ap, subst, ◌∙◌, arith}
use Rattle.std.proofs.lemmas.Bool.{cases_lt, cond-true, cond-false, eq-eqb, ne_eqb}
use Rattle.std.proofs.lemmas.List.{length_push}
use Rattle.dtx_cadence.specs.declared.anchor.Lock.{Lock}
use Rattle.dtx_cadence.specs.declared.anchor.Seen.{Seen}
use Rattle.dtx_cadence.specs.declared.anchor.Seen.TheVariants.{Free, Start, Lost, At}
use Rattle.dtx_cadence.specs.Anchor as cadence
use Rattle.dtx_ops.specs.Reading.{reading}
use Rattle.dtx_exciter.specs.Packets.{under, part_of, group_part}
use Rattle.dtx_exciter.proofs.UnderLemmas.{Goes, Sees, goes_seen}
use Rattle.dtx_watch.specs.declared.notes.Note.{Note}
use Rattle.dtx_watch.specs.declared.notes.NoteKind.TheVariants as what
use Rattle.dtx_watch.specs.declared.telling.Expected.TheVariants.{Early}
use Rattle.dtx_watch.specs.declared.watcher.Watcher.{Watcher}
use Rattle.dtx_watch.specs.Notes.{packet_note, one_or_none}
use Rattle.dtx_watch.specs.Watch.{group_notes, told, waiting}
use Rattle.dtx_watch.specs.Step.{group_at_hand, notes_in, lock_notes, IsSame}
use Rattle.dtx_watch.specs.Kept.{KeepsUnder, Keeps, StandsFor, IsTaken, IsJoined, Joins}
use Rattle.dtx_watch.proofs.ToldLemmas.{Stood, stood_before, part_is, part_under, part_free, told_free, told_lost}
use Rattle.dtx_watch.proofs.ToldLemmas.{told_start, told_partial, told_group, waiting_none, waiting_some}
use Rattle.dtx_watch.proofs.Joined.{all_notes, part_at_hand}

stood_as : (before : List (List ℕ)) (p : List ℕ) (s : Seen) (anchor : Option Lock) → Sees before p s anchor
    → Stood s before
stood_as before p s anchor h = subst (λ x. Stood x before) (sym h.saw) (stood_before before p)

-- by what stands under the anchor with it
record Makes (before : List (List ℕ)) (now : Option (List (List ℕ))) (w : Watcher) (anchor : Option Lock) : Type 0 where
  count : w.count ≡ length before + 1
  anchored : w.anchor ≡ anchor
  part : w.part ≡ part_of now
  kept : Keeps w now

taken_as : (before : List (List ℕ)) (p : List ℕ) (s : Seen) (anchor : Option Lock) (now : Option (List (List ℕ)))
    (w : Watcher) (given : List Note) → Sees before p s anchor → under (before ++ p ∷ []) ≡ now
    → told (before ++ p ∷ []) ≡ told before ++ given → Makes before now w anchor → IsTaken before p w given
taken_as before p s anchor now w given h u t m = grind (arith, length_push, part_is)

-- the watcher as it was, but for the count and the anchor
abbrev pub counted : Watcher → Option Lock → Watcher
counted old anchor = record old { count = old.count + 1; anchor = anchor }

-- where there is no anchor
alone : (old now : Watcher) (before : List (List ℕ)) (anchor : Option Lock) → StandsFor old before
    → group_part before ≡ 0 → now ≡ counted old anchor → Makes before None now anchor
alone old now before anchor h z e = grind arith

pub taken_free : (old now : Watcher) (before : List (List ℕ)) (p : List ℕ) (anchor : Option Lock)
    (given : List Note) → StandsFor old before → Sees before p Free anchor → now ≡ counted old anchor
    → given ≡ one_or_none (packet_note old.count None Early None (reading p)) → IsTaken before p now given
taken_free old now before p anchor given stood h e n =
    let g : Goes 0 0 before p Free = goes_seen 0 0 before p Free anchor h in
    let was = stood_as before p Free anchor h in
    taken_as before p Free anchor None now given h g.follows (told_free before p was g.follows
    ∙ ap (λ ns. told before ++ ns) (grind arith)) (alone old now before anchor stood (part_free before was) e)

pub taken_lost : (old now : Watcher) (before : List (List ℕ)) (p : List ℕ) (anchor : Option Lock)
    (given : List Note) → StandsFor old before → Sees before p Lost anchor → now ≡ counted old anchor
    → given ≡ (record { packet = old.count; what = what.Lost })
    ∷ one_or_none (packet_note old.count None Early None (reading p)) → IsTaken before p now given
taken_lost old now before p anchor given stood h e n =
    let g : Goes 0 0 before p Lost = goes_seen 0 0 before p Lost anchor h in
    let was = stood_as before p Lost anchor h in
    taken_as before p Lost anchor None now given h g.follows (grind (arith, told_lost))
    (alone old now before anchor stood (part_under before was.0 was.1 ∙ was.2) e)

-- where it is the anchor
pub taken_start : (old mid now : Watcher) (before : List (List ℕ)) (p : List ℕ) (anchor : Option Lock)
    (given : List Note) → StandsFor old before → Sees before p Start anchor → mid ≡ counted old anchor
    → KeepsUnder now (p ∷ []) → now.part ≡ 1 → IsSame mid now → given ≡ [] → IsTaken before p now given
taken_start old mid now before p anchor given stood h e keeps part same n =
    let g : Goes 0 0 before p Start = goes_seen 0 0 before p Start anchor h in
    taken_as before p Start anchor (Some (p ∷ [])) now given h g.follows
    (rw (told_start before p (stood_as before p Start anchor h) g.follows, ← n)) (grind arith)

-- where it joins those under the anchor
with_count : (old mid : Watcher) (anchor : Option Lock) (l : List (List ℕ)) → mid ≡ counted old anchor
    → KeepsUnder old l → KeepsUnder mid l
with_count old mid anchor l e k = subst (λ (x : Watcher). KeepsUnder x l) (sym e) (record {
  first = k.first;
  flushed = k.flushed;
  partial = k.partial;
  ordered = k.ordered;
  latest = k.latest;
  coder = k.coder;
})

told_joined : (before l : List (List ℕ)) (p : List ℕ) (k : ℕ) (w : Watcher) (given : List Note)
    → under before ≡ Some l → under (before ++ p ∷ []) ≡ Some (l ++ p ∷ []) → IsJoined (l ++ p ∷ []) k w given
    → k ≡ length before → told (before ++ p ∷ []) ≡ told before ++ given
told_joined before l p k w given was now j e =
    grind (arith, cases_lt, length_push, told_partial, cond-false, ne_eqb, told_group, cond-true, eq-eqb)

pub taken_at : (old mid now : Watcher) (before : List (List ℕ)) (p : List ℕ) (place : ℕ) (anchor : Option Lock)
    (given : List Note) → StandsFor old before → Sees before p (At place) anchor → mid ≡ counted old anchor
    → Joins place p mid now given → IsSame mid now → IsTaken before p now given
taken_at old mid now before p place anchor given stood h e joins same =
    by_follow (goes_seen 0 0 before p (At place) anchor h)
  where
    by_follow : Goes 0 0 before p (At place) → IsTaken before p now given
    by_follow g =
        let keeps : KeepsUnder old g.follows.0 = subst (Keeps old) g.follows.1 stood.kept in
        let j : IsJoined (g.follows.0 ++ p ∷ []) (mid.count - 1) now given = grind (arith, with_count) in
        let at : mid.count - 1 ≡ length before = omega (arith, ap (λ (w : Watcher). w.count) e, stood.count) in
        taken_as before p (At place) anchor (Some (g.follows.0 ++ p ∷ [])) now given h g.follows.2
        (told_joined before g.follows.0 p (mid.count - 1) now given g.follows.1 g.follows.2 j at) (record {
          count = same.count ∙ ap (λ (w : Watcher). w.count) e ∙ ap (λ (n : ℕ). n + 1) stood.count;
          anchored = same.anchor ∙ ap (λ (w : Watcher). w.anchor) e;
          part = j.part;
          kept = j.keeps;
        })

-- ---- the end

pub nothing_waits : (w : Watcher) (d : List (List ℕ)) (given : List Note) → StandsFor w d → w.part ≡ 0 → given ≡ []
    → given ≡ waiting d
nothing_waits w d given h z n = n ∙ sym (waiting_none d (sym h.part ∙ z))

pub some_wait : (w : Watcher) (d : List (List ℕ)) (given : List Note) → StandsFor w d → 0 < w.part
    → given ≡ lock_notes w ++ notes_in (group_at_hand w Early) w.part → given ≡ waiting d
some_wait w d given h some n = by_under (under d) refl
  where
    by_size : (l : List (List ℕ)) → under d ≡ Some l → (m : ℕ) → w.part ≡ suc m → given ≡ waiting d
    by_size l e m s =
        let part : length l % 4 ≡ suc m = sym (part_under d l e) ∙ sym h.part ∙ s in
        let i : ℕ = length l - suc m in
        let size : length l ≡ i + suc m = omega (arith, part) in
        let whole : i % 4 ≡ 0 = omega (arith, part) in
        let number : w.count - suc m ≡ length d - suc m = ap (λ (x : ℕ). x - suc m) h.count in
        n ∙ ap (λ x. lock_notes w ++ notes_in (group_at_hand w Early) x) s
        ∙ all_notes w l i (suc m) (w.count - suc m) Early
        (part_at_hand w l i (suc m) (subst (Keeps w) e h.kept) size whole (omega arith) (omega (arith, part)) s)
        ∙ ap (λ x. group_notes l x i (suc m)) number ∙ sym (waiting_some d l i m e size whole (omega (arith, part)))

    by_under : (o : Option (List (List ℕ))) → under d ≡ o → given ≡ waiting d
    by_under None e = let z = part_free d e in let q = h.part in absurd (omega (arith, z, q, some))
    by_under (Some l) e = let s : w.part ≡ suc (w.part - 1) = omega (arith, some) in by_size l e (w.part - 1) s

-- ---- what is known of a watcher's numbers

pub few_in_part : (w : Watcher) (d : List (List ℕ)) → StandsFor w d → w.part < 4
few_in_part w d h = grind (arith, part_free, part_under)

pub place_of_part : (w : Watcher) (d : List (List ℕ)) → StandsFor w d → 0 < w.part → w.first < 624
place_of_part w d h some = grind (arith, part_free, part_under)
