-- What is told of packets, with one packet more.
use Rattle.std.proofs.Common.{◌≡◌, ◌≢◌, ℕ, zero, suc, ◌+◌, ◌-◌, ◌*◌, ◌/◌, ◌%◌, ◌<◌, ◌≤◌, ◌⊎◌, ◌==◌, ◌&&◌, Bool, true}
use Rattle.std.proofs.Common.{false, not, cond, Option, Some, None, option_map, List, [], ◌∷◌, ◌++◌, length, take, drop}
use Rattle.std.proofs.Common.{get_or, refl, sym, ap, ap₂, subst, ◌∙◌, arith, inl, inr, nat_le, le-leb, eqb-true}
use Rattle.std.proofs.Common.{append-nil, append_assoc, length-drop, take_all, length-append, length-take-le}
use Rattle.std.specs.Prelude.{⊤}
use Rattle.std.specs.List.{range_with_len, flat_map}
use Rattle.std.proofs.Math.Seq.{take-suc}
use Rattle.std.proofs.lemmas.Bool.{cases_lt, cond-true, cond-false, lt-leb, and_left, and_right, and_from}
use Rattle.std.proofs.lemmas.Grind.{flat_map-append}
use Rattle.std.proofs.lemmas.List.{length_push, take-append-le, drop-append-le, get_or_append_left, get_or_push}
use Rattle.dtx_lists.proofs.Range.{range_with_len-parts}
use Rattle.dtx_lists.proofs.RangeMoved.{flat_map-range_same}
use Rattle.dtx_packets.specs.Packets.{sync_of}
use Rattle.dtx_cadence.specs.declared.anchor.Seen.{Seen}
use Rattle.dtx_cadence.specs.declared.anchor.Seen.TheVariants.{Free, Start, Lost, At}
use Rattle.dtx_cadence.specs.Anchor.{has_mark, anchor, seen_by, seen}
use Rattle.dtx_cadence.proofs.NextAnchorLemmas.{anchor_next}
use Rattle.dtx_ops.specs.Reading.{reading}
use Rattle.dtx_exciter.specs.Order.{Order, orders}
use Rattle.dtx_exciter.specs.Packets.{syncs, readings, anchor_of, under, part_of, group_part}
use Rattle.dtx_exciter.proofs.ForceLemmas.{force_left}
use Rattle.dtx_exciter.proofs.RangesLemmas.{flat_map-range_moved}
use Rattle.dtx_exciter.proofs.UnderLemmas.{Follows, goes, said_append, length-said, length-syncs}
use Rattle.dtx_watch.specs.declared.notes.Note.{Note}
use Rattle.dtx_watch.specs.declared.notes.NoteKind.TheVariants as what
use Rattle.dtx_watch.specs.declared.telling.Expected.TheVariants.{Early}
use Rattle.dtx_watch.specs.Notes.{packet_note, lock_note, one_or_none}
use Rattle.dtx_watch.specs.Watch.{expected_by, expected_at, stamped_before, note_under, group_notes, reading_note}
use Rattle.dtx_watch.specs.Watch.{notes_at, notes_to, told, waiting, watch}
use Rattle.dtx_watch.proofs.AnchorsLemmas.{IsUnder, is_under, since, none_before, no_anchor, below}
use Rattle.dtx_watch.proofs.GroupsLemmas.{latest_same}

-- ---- under an anchor, what is told of a packet whose group is whole stays

pub stamped_front : (l r : List (List ℕ)) (m : ℕ) → m ≤ length l → stamped_before (l ++ r) m ≡ stamped_before l m
unfolding stamped_before
stamped_front l r m h = grind (arith, latest_same, said_append, get_or_append_left, length-said)

by_front : (l r : List (List ℕ)) (i : ℕ) (os : List Order) → i ≤ length l → expected_by (l ++ r) i os ≡ expected_by l
    i os
by_front l r i [] h = refl
by_front l r i (order ∷ older) h = grind (arith, take-append-le)

-- where the group doesn't count
pub early : (l : List (List ℕ)) (i : ℕ) → i < 52 → expected_at l i ≡ Early
unfolding expected_at
early l i m = cond-false (nat_le 52 i && nat_le (i + 4) (length l)) _ _ (and_left (nat_le 52 i) _ (lt-leb 52 i m))

pub not_whole : (l : List (List ℕ)) (i : ℕ) → length l < i + 4 → expected_at l i ≡ Early
unfolding expected_at
not_whole l i m = grind (arith, cond-false, and_right, lt-leb)

-- where it does
pub counts : (l : List (List ℕ)) (i : ℕ) → 52 ≤ i → i + 4 ≤ length l
    → expected_at l i ≡ expected_by l i (orders (readings l) (i - 4))
unfolding expected_at
counts l i m h = grind (arith, cond-true, and_from, le-leb)

expected_front : (l r : List (List ℕ)) (i : ℕ) → i + 4 ≤ length l → expected_at (l ++ r) i ≡ expected_at l i
expected_front l r i h =
    grind (arith, cases_lt, early, counts, length-append, by_front, said_append, force_left, length-said)

pub note_front : (l r : List (List ℕ)) (k m : ℕ) → 4 * (m / 4) + 4 ≤ length l → note_under (l ++ r) k m ≡ note_under l
    k m
unfolding note_under
note_front l r k m h = grind (arith, expected_front, stamped_front, get_or_append_left)

-- ---- what is told of a packet stays

-- the group of packet k is whole, where it stands under an anchor
abbrev pub IsSettled : List (List ℕ) → ℕ → Type 0
IsSettled d k = (a : ℕ) → anchor_of (take (k + 1) d) ≡ Some a → a + 4 * ((k - a) / 4) + 4 ≤ length d

pub notes_stay : (d r : List (List ℕ)) (k : ℕ) → k < length d → IsSettled d k → notes_at (d ++ r) k ≡ notes_at d k
unfolding notes_at
notes_stay d r k l s =
    grind (arith, take-append-le, get_or_append_left, length-take-le, below, drop-append-le, note_front, length-drop)

to_stay : (d r : List (List ℕ)) (n : ℕ) → n ≤ length d → ((k : ℕ) → k < n → IsSettled d k)
    → notes_to (d ++ r) n ≡ notes_to d n
unfolding notes_to
to_stay d r n l s = grind (arith, flat_map-range_same, notes_stay)

-- ---- how the anchor stood before a packet

-- by what is seen of the packet
abbrev pub Stood : Seen → List (List ℕ) → Type 0
Stood Free d = under d ≡ None
Stood Start d = under d ≡ None
Stood Lost d = (l : List (List ℕ)) × (under d ≡ Some l) × (length l % 4 ≡ 0)
Stood (At place) d = ⊤

pub stood_before : (d : List (List ℕ)) (p : List ℕ) → Stood (seen (syncs d) (sync_of p)) d
unfolding seen under anchor_of
stood_before d p = by_anchor (anchor (syncs d)) refl (anchor (syncs d ++ sync_of p ∷ [])) refl
  where
    due : (a : ℕ) (t x y : Bool) → ((length (syncs d) - a) % 624 == 0) ≡ t
        → cond (t && x && y) None (Some a) ≡ None → (length (syncs d) - a) % 624 ≡ 0
    due a true x y e h = eqb-true ((length (syncs d) - a) % 624) 0 e
    due a false x y e h = cc

    lost : (a : ℕ) → anchor (syncs d) ≡ Some a → anchor (syncs d ++ sync_of p ∷ []) ≡ None → length (drop a d) % 4 ≡ 0
    lost a e n =
        let z = due a ((length (syncs d) - a) % 624 == 0) (not (sync_of p == 0xB8))
        (not (has_mark (syncs d) (length (syncs d) - 624))) refl (sym (anchor_next (syncs d) (sync_of p) a e) ∙ n) in
        omega (arith, z, length-syncs d, length-drop a d)

    by_anchor : (o : Option ℕ) → anchor (syncs d) ≡ o → (now : Option ℕ)
        → anchor (syncs d ++ sync_of p ∷ []) ≡ now → Stood (seen_by (length (syncs d)) o now) d
    by_anchor None e None n = ap (option_map (λ a. drop a d)) e
    by_anchor None e (Some j) n = ap (option_map (λ a. drop a d)) e
    by_anchor (Some a) e None n = (drop a d, ap (option_map (λ a. drop a d)) e, lost a e n)
    by_anchor (Some a) e (Some j) n = tt

-- ---- how many packets are told of

pub part_is : (d : List (List ℕ)) (o : Option (List (List ℕ))) → under d ≡ o → group_part d ≡ part_of o
unfolding group_part
part_is d o h = ap part_of h

pub part_under : (d l : List (List ℕ)) → under d ≡ Some l → group_part d ≡ length l % 4
part_under d l h = part_is d (Some l) h

pub part_free : (d : List (List ℕ)) → under d ≡ None → group_part d ≡ 0
part_free d h = part_is d None h

pub to_parts : (x : List (List ℕ)) (m n : ℕ)
    → notes_to x (m + n) ≡ notes_to x m ++ flat_map (notes_at x) (range_with_len m n)
unfolding notes_to
to_parts x m n = grind (arith, range_with_len-parts, flat_map-append)

-- of so many more packets
told_by : (d : List (List ℕ)) (p : List ℕ) (n : ℕ)
    → length (d ++ p ∷ []) - group_part (d ++ p ∷ []) ≡ (length d - group_part d) + n
    → ((k : ℕ) → k < length d - group_part d → IsSettled d k)
    → told (d ++ p ∷ []) ≡ told d ++ flat_map (notes_at (d ++ p ∷ [])) (range_with_len (length d - group_part d) n)
told_by d p n e s = grind (arith, to_parts, to_stay)

-- ---- what is told of the last group under the anchor

-- of its first packet, the anchor is told too where it is the first of all
first_at : (d l : List (List ℕ)) (u : IsUnder d l) (i : ℕ) → u.anchor + i < length d → notes_at d (u.anchor + i)
    ≡ cond (i == 0) ((record { packet = u.anchor + i; what = what.Lock }) ∷ []) [] ++ one_or_none (note_under l
    (u.anchor + i) i)
unfolding notes_at
first_at d l u i h =
    let k : ℕ = u.anchor + i in
    let now : anchor_of (take (k + 1) d) ≡ Some u.anchor =
    since d u.anchor (k + 1) u.is (omega arith) (omega (arith, h)) in
    let less : k - u.anchor ≡ i = omega arith in
    ap (λ o. one_or_none (lock_note k (anchor_of (take k d)) o) ++ one_or_none (reading_note d k o)) now
    ∙ ap₂ (λ x m. one_or_none (lock_note k (anchor_of (take k d)) (Some u.anchor)) ++ one_or_none (note_under x k m))
    u.are less ∙ ap (λ ns. ns ++ one_or_none (note_under l k i)) (by_place i refl h)
  where
    by_place : (j : ℕ) → i ≡ j → u.anchor + i < length d
        → one_or_none (lock_note (u.anchor + i) (anchor_of (take (u.anchor + i) d)) (Some u.anchor))
        ≡ cond (j == 0) ((record { packet = u.anchor + i; what = what.Lock }) ∷ []) []
    by_place zero e b = grind (arith, none_before)
    by_place (suc j) e b = grind (arith, since, cond-false)

later_at : (d l : List (List ℕ)) (u : IsUnder d l) (i : ℕ) → u.anchor + i < length d → 0 < i
    → notes_at d (u.anchor + i) ≡ one_or_none (note_under l (u.anchor + i) i)
later_at d l u i h some = first_at d l u i h ∙ ap (λ ns. ns ++ one_or_none (note_under l (u.anchor + i) i))
    (cond-false (i == 0) ((record { packet = u.anchor + i; what = what.Lock }) ∷ []) [] (grind arith))

pub group_at_end : (d l : List (List ℕ)) (u : IsUnder d l) (i n : ℕ) → length l ≡ i + suc n
    → flat_map (notes_at d) (range_with_len (u.anchor + i) (suc n)) ≡ group_notes l (u.anchor + i) i (suc n)
unfolding group_notes
group_at_end d l u i n e =
    let k : ℕ = u.anchor + i in
    let inside = u.inside in
    let long : length d ≡ k + suc n = grind (arith, length-drop) in
    let g : ℕ → List Note = λ m. one_or_none (note_under l (k + m) (i + m)) in
    let k0 : k + 0 ≡ k = omega arith in
    let i0 : i + 0 ≡ i = omega arith in
    let lock : List Note = cond (i == 0) ((record { packet = k; what = what.Lock }) ∷ []) [] in
    ap₂ ◌++◌ (grind (arith, first_at)) (flat_map-range_moved (notes_at d) g (k + 1) (0 + 1) n (λ m h.
    let at : k + 1 + m ≡ u.anchor + (i + (0 + 1 + m)) = omega arith in
    let same : u.anchor + (i + (0 + 1 + m)) ≡ k + (0 + 1 + m) = omega arith in
    ap (notes_at d) at ∙ later_at d l u (i + (0 + 1 + m)) (omega (arith, h, long)) (omega arith)
    ∙ ap (λ x. one_or_none (note_under l x (i + (0 + 1 + m)))) same))
    ∙ append_assoc lock (g 0) (flat_map g (range_with_len (0 + 1) n))

-- ---- each packet before the group at hand is settled

-- with one packet more
settled_more : (d : List (List ℕ)) (p : List ℕ) → ((k : ℕ) → k < length d - group_part d → IsSettled d k)
    → (k : ℕ) → k < length (d ++ p ∷ []) - group_part (d ++ p ∷ []) → IsSettled (d ++ p ∷ []) k
settled_more d p s k h = λ a e. by_seen (seen (syncs d) (sync_of p)) (stood_before d p) (goes 0 0 d p).follows a e
  where
    all : List (List ℕ)
    all = d ++ p ∷ []

    long : length all ≡ length d + 1
    long = length_push d p

    old : (a : ℕ) → anchor_of (take (k + 1) all) ≡ Some a → k < length d - group_part d
        → a + 4 * ((k - a) / 4) + 4 ≤ length all
    old a e l =
        let front : take (k + 1) all ≡ take (k + 1) d = take-append-le (k + 1) d (p ∷ []) (omega (arith, l)) in
        let b = s k l a (sym (ap anchor_of front) ∙ e) in
        omega (arith, b, long)

    none : (a : ℕ) → anchor_of (take (k + 1) all) ≡ Some a → under all ≡ None → group_part d ≡ 0
        → a + 4 * ((k - a) / 4) + 4 ≤ length all
    none a e now z = by_place (cases_lt k (length d))
      where
        none_some : (a : ℕ) → ◌≡◌ {A = Option ℕ} None (Some a) → ⊥
        none_some a e = cc

        by_place : (k < length d) ⊎ (length d ≤ k) → a + 4 * ((k - a) / 4) + 4 ≤ length all
        by_place (inl l) = old a e (omega (arith, l, z))
        by_place (inr l) =
            let same : take (k + 1) all ≡ all = take_all (k + 1) all (omega (arith, l, long)) in
            absurd (none_some a (sym (no_anchor all now) ∙ sym (ap anchor_of same) ∙ e))

    at : (a : ℕ) (l : List (List ℕ)) → anchor_of (take (k + 1) all) ≡ Some a → under d ≡ Some l
        → under all ≡ Some (l ++ p ∷ []) → a + 4 * ((k - a) / 4) + 4 ≤ length all
    at a l e was now = elim (cases_lt k (length d - group_part d)) [
      | inl m ↦ old a e m
      | inr m ↦
          let inside = u.inside in
          let size : length (l ++ p ∷ []) ≡ length all - u.anchor =
          ap (λ (x : List (List ℕ)). length x) (sym u.are) ∙ length-drop u.anchor all in
          let one = length_push l p in
          let x = part_under d l was in
          let y = part_under all (l ++ p ∷ []) now in
          let same : anchor_of (take (k + 1) all) ≡ Some u.anchor =
          since all u.anchor (k + 1) u.is (omega (arith, m, h, inside, size, one, x, y, long)) (omega (arith, h)) in
          let q : u.anchor ≡ a = some_same (sym same ∙ e) in
          omega (arith, m, h, inside, size, one, x, y, long, q)
    ]
      where
        some_same : {x y : ℕ} → ◌≡◌ {A = Option ℕ} (Some x) (Some y) → x ≡ y
        some_same e = cc

        u : IsUnder all (l ++ p ∷ [])
        u = is_under all (l ++ p ∷ []) now

    by_seen : (s : Seen) → Stood s d → Follows s p (under d) (under all) → (a : ℕ)
        → anchor_of (take (k + 1) all) ≡ Some a → a + 4 * ((k - a) / 4) + 4 ≤ length all
    by_seen Free was now a e = none a e now (part_free d was)
    by_seen Start was now a e =
        old a e (let x = part_free d was in let y = part_under all (p ∷ []) now in omega (arith, h, x, y, long))
    by_seen Lost was now a e = none a e now (part_under d was.0 was.1 ∙ was.2)
    by_seen (At place) was now a e = at a now.0 e now.1 now.2

settled_to : (d : List (List ℕ)) (n k : ℕ) → k < length (take n d) - group_part (take n d) → IsSettled (take n d) k
settled_to d zero k h = absurd (omega (arith, h))
settled_to d (suc n) k h = by_place (cases_lt n (length d)) (settled_to d n) h
  where
    by_place : (n < length d) ⊎ (length d ≤ n)
        → ((j : ℕ) → j < length (take n d) - group_part (take n d) → IsSettled (take n d) j)
        → k < length (take (suc n) d) - group_part (take (suc n) d) → IsSettled (take (suc n) d) k
    by_place (inl l) before b =
        let e : take (suc n) d ≡ take n d ++ get_or d n [] ∷ [] = take-suc d n [] l in
        subst (λ x. IsSettled x k) (sym e) (settled_more (take n d) (get_or d n []) before k (grind arith))
    by_place (inr l) before b =
        let e : take (suc n) d ≡ take n d = take_all (suc n) d (omega (arith, l)) ∙ sym (take_all n d l) in
        subst (λ x. IsSettled x k) (sym e) (before k (subst (λ (x : List (List ℕ)). k < length x - group_part x) e b))

pub settled : (d : List (List ℕ)) (k : ℕ) → k < length d - group_part d → IsSettled d k
settled d k h = subst (λ x. IsSettled x k) (take_all (length d) d (omega arith)) (settled_to d (length d) k
    (subst (λ (x : List (List ℕ)). k < length x - group_part x) (sym (take_all (length d) d (omega arith))) h))

-- ---- one packet more

-- where there is no anchor with it
alone_at : (d : List (List ℕ)) (p : List ℕ) → anchor_of (d ++ p ∷ []) ≡ None
    → notes_at (d ++ p ∷ []) (length d) ≡ one_or_none (lock_note (length d) (anchor_of d) None)
    ++ one_or_none (packet_note (length d) None Early None (reading p))
unfolding notes_at
alone_at d p none =
    let k : ℕ = length d in
    let here : take k (d ++ p ∷ []) ≡ d = take-append-le k d (p ∷ []) (omega arith) ∙ take_all k d (omega arith) in
    ap₂ (λ x o. one_or_none (lock_note k (anchor_of x) o) ++ one_or_none (reading_note (d ++ p ∷ []) k o)) here
    (ap anchor_of (take_all (k + 1) (d ++ p ∷ []) (omega (arith, length_push d p))) ∙ none)
    ∙ ap (λ q. one_or_none (lock_note k (anchor_of d) None) ++ one_or_none
    (packet_note k None Early None (reading q))) (get_or_push d p [] k refl)

-- where there is no anchor with it
told_alone : (d : List (List ℕ)) (p : List ℕ) → under (d ++ p ∷ []) ≡ None → group_part d ≡ 0
    → told (d ++ p ∷ []) ≡ told d ++ (one_or_none (lock_note (length d) (anchor_of d) None)
    ++ one_or_none (packet_note (length d) None Early None (reading p)))
told_alone d p now z =
    let all : List (List ℕ) = d ++ p ∷ [] in
    let long : length all ≡ length d + 1 = length_push d p in
    let x = part_free all now in
    let m : length d - group_part d ≡ length d = omega (arith, z) in
    told_by d p 1 (omega (arith, long, x, z)) (settled d)
    ∙ ap (λ ys. told d ++ ys)
    (append-nil (notes_at all (length d - group_part d)) ∙ ap (notes_at all) m ∙ alone_at d p (no_anchor all now))

pub told_free : (d : List (List ℕ)) (p : List ℕ) → under d ≡ None → under (d ++ p ∷ []) ≡ None
    → told (d ++ p ∷ []) ≡ told d ++ one_or_none (packet_note (length d) None Early None (reading p))
told_free d p was now = grind (arith, told_alone, part_free, no_anchor)

pub told_lost : (d : List (List ℕ)) (p : List ℕ) → Stood Lost d → under (d ++ p ∷ []) ≡ None
    → told (d ++ p ∷ []) ≡ told d ++ ((record { packet = length d; what = what.Lost })
    ∷ one_or_none (packet_note (length d) None Early None (reading p)))
told_lost d p was now = told_alone d p now (part_under d was.0 was.1 ∙ was.2)
    ∙ ap (λ o. told d ++ (one_or_none (lock_note (length d) o None)
    ++ one_or_none (packet_note (length d) None Early None (reading p)))) (is_under d was.0 was.1).is

-- where it is the anchor, or ends no group under it
told_within : (d : List (List ℕ)) (p : List ℕ) → group_part (d ++ p ∷ []) ≡ group_part d + 1
    → told (d ++ p ∷ []) ≡ told d ++ []
told_within d p e = told_by d p 0 (omega (arith, e, length_push d p)) (settled d)

pub told_start : (d : List (List ℕ)) (p : List ℕ) → under d ≡ None → under (d ++ p ∷ []) ≡ Some (p ∷ [])
    → told (d ++ p ∷ []) ≡ told d ++ []
told_start d p was now =
    let x = part_free d was in let y = part_under (d ++ p ∷ []) (p ∷ []) now in told_within d p (omega (arith, x, y))

pub told_partial : (d : List (List ℕ)) (p : List ℕ) (l : List (List ℕ)) → under d ≡ Some l
    → under (d ++ p ∷ []) ≡ Some (l ++ p ∷ []) → length l % 4 ≢ 3 → told (d ++ p ∷ []) ≡ told d ++ []
told_partial d p l was now h =
    let x = part_under d l was in
    let y = part_under (d ++ p ∷ []) (l ++ p ∷ []) now in
    told_within d p (omega (arith, x, y, h, length_push l p))

-- where it ends a group
pub told_group : (d : List (List ℕ)) (p : List ℕ) (l : List (List ℕ)) (i : ℕ) → under d ≡ Some l
    → under (d ++ p ∷ []) ≡ Some (l ++ p ∷ []) → length l ≡ i + 3 → i % 4 ≡ 0
    → told (d ++ p ∷ []) ≡ told d ++ group_notes (l ++ p ∷ []) (length d - 3) i 4
told_group d p l i was now e w =
    let all : List (List ℕ) = d ++ p ∷ [] in
    let u : IsUnder all (l ++ p ∷ []) = is_under all (l ++ p ∷ []) now in
    let inside = u.inside in
    let long : length all ≡ length d + 1 = length_push d p in
    let one = length_push l p in
    let size : length (l ++ p ∷ []) ≡ length all - u.anchor = grind (arith, length-drop) in
    let x = part_under d l was in
    let y = part_under all (l ++ p ∷ []) now in
    let at : length d - group_part d ≡ u.anchor + i = omega (arith, inside, long, one, size, x, e, w) in
    let k : u.anchor + i ≡ length d - 3 = omega (arith, inside, long, one, size, e) in
    told_by d p 4 (omega (arith, long, x, y, one, e, w)) (settled d) ∙ ap (λ ys. told d ++ ys)
    (rw (at, group_at_end all (l ++ p ∷ []) u i 3 (omega (arith, one, e)), k))

-- ---- the end

pub nothing_told : told [] ≡ []
unfolding notes_to
nothing_told = let e : length {A = List ℕ} [] - group_part [] ≡ 0 = omega arith in ap (notes_to []) e

pub waiting_none : (d : List (List ℕ)) → group_part d ≡ 0 → waiting d ≡ []
waiting_none d z = ap (λ n. flat_map (notes_at d) (range_with_len (length d - group_part d) n)) z

pub waiting_some : (d l : List (List ℕ)) (i n : ℕ) → under d ≡ Some l → length l ≡ i + suc n → i % 4 ≡ 0 → suc n < 4
    → waiting d ≡ group_notes l (length d - suc n) i (suc n)
waiting_some d l i n now e w few =
    let inside = (is_under d l now).inside in
    let size : length l ≡ length d - (is_under d l now).anchor = grind (arith, length-drop) in
    let part : group_part d ≡ suc n = let x = part_under d l now in omega (arith, x, e, w, few) in
    let at : length d - group_part d ≡ (is_under d l now).anchor + i = omega (arith, inside, size, e, part) in
    let k : (is_under d l now).anchor + i ≡ length d - suc n = omega (arith, inside, size, e) in
    ap₂ (λ x y. flat_map (notes_at d) (range_with_len x y)) at part ∙ group_at_end d l (is_under d l now) i n e
    ∙ ap (λ x. group_notes l x i (suc n)) k

-- all that is told is told before the end or at it
pub all_told : (d : List (List ℕ)) → watch d ≡ told d ++ waiting d
unfolding group_part
all_told d = ap (notes_to d) (by_under (under d) refl) ∙ to_parts d (length d - group_part d) (group_part d)
  where
    by_under : (o : Option (List (List ℕ))) → under d ≡ o → length d ≡ (length d - group_part d) + group_part d
    by_under None h = let x = part_free d h in omega (arith, x)
    by_under (Some l) h =
        let u : IsUnder d l = is_under d l h in
        let size : length l ≡ length d - u.anchor = grind (arith, length-drop) in
        let x = part_under d l h in
        omega (arith, x, size)

-- ---- more packets

few_more : (d : List (List ℕ)) (p : List ℕ) → group_part (d ++ p ∷ []) ≤ group_part d + 1
few_more d p = by_seen (seen (syncs d) (sync_of p)) (goes 0 0 d p).follows
  where
    by_seen : (s : Seen) → Follows s p (under d) (under (d ++ p ∷ [])) → group_part (d ++ p ∷ []) ≤ group_part d + 1
    by_seen Free now = let x = part_free (d ++ p ∷ []) now in omega (arith, x)
    by_seen Start now = let x = part_under (d ++ p ∷ []) (p ∷ []) now in omega (arith, x)
    by_seen Lost now = let x = part_free (d ++ p ∷ []) now in omega (arith, x)
    by_seen (At place) now =
        let x = part_under d now.0 now.1 in
        let y = part_under (d ++ p ∷ []) (now.0 ++ p ∷ []) now.2 in
        omega (arith, x, y, length_push now.0 p)

-- what is told of them goes on
pub told_further : (d r : List (List ℕ)) → (more : List Note) × (told (d ++ r) ≡ told d ++ more)
told_further d [] = ([], ap told (append-nil d) ∙ sym (append-nil (told d)))
told_further d (p ∷ r) =
    let n : ℕ = length (d ++ p ∷ []) - group_part (d ++ p ∷ []) - (length d - group_part d) in
    let rest = told_further (d ++ p ∷ []) r in
    let one : List Note = flat_map (notes_at (d ++ p ∷ [])) (range_with_len (length d - group_part d) n) in (
      one ++ rest.0,
      ap told (sym (append_assoc d (p ∷ []) r)) ∙ rest.1 ∙ ap (λ ns. ns ++ rest.0)
          (told_by d p n (omega (arith, few_more d p, length_push d p)) (settled d)) ∙ append_assoc (told d) one rest.0,
    )
