-- The feed of a stream: its length, its parts, and its next packet.
use Rattle.std.proofs.Common.{◌≡◌, ◌⊎◌, inl, inr, ℕ, zero, suc, ◌+◌, ◌%◌, ◌<◌, ◌≤◌, Bool, true, false, cond, List, []}
use Rattle.std.proofs.Common.{◌∷◌, ◌++◌, length, take, drop, get_or, refl, sym, ap, ap₂, ◌∙◌, arith}
use Rattle.std.proofs.Math.Seq.{get_or-append_seam, take-append_seam}
use Rattle.std.proofs.lemmas.Bool.{cases_lt}
use Rattle.std.proofs.lemmas.List.{length-append, take-append-le, take-append-drop, take_all, get_or-take}
use Rattle.std.proofs.lemmas.List.{get_or_append_left, length-take-le}
use Rattle.std.proofs.lemmas.List.Elements.{filter-append}
use Rattle.std.proofs.lemmas.List.Sums.{length-filter, count_by-le-length}
use Rattle.dtx_plan.specs.declared.plan.Plan.{Plan}
use Rattle.dtx_adapter.specs.Feed.{is_placeholder, placeholders, ops_at, counter_at, as_feed_packet, fed_packet}
use Rattle.dtx_adapter.specs.Feed.{feed_to, feed}
use Rattle.dtx_adapter.proofs.GroupsLemmas.{filled_groups-more}

-- ---- placeholders

pub placeholders-append : (ps qs : List (List ℕ)) → placeholders (ps ++ qs) ≡ placeholders ps + placeholders qs
unfolding placeholders
placeholders-append ps qs = grind (arith, filter-append, length-append)

one_kept : (b : Bool) (p : List ℕ) → length (cond b (p ∷ []) []) ≡ cond b 1 0
one_kept true p = refl
one_kept false p = refl

pub placeholders-one : (p : List ℕ) → placeholders (p ∷ []) ≡ cond (is_placeholder p) 1 0
unfolding placeholders
placeholders-one p = one_kept (is_placeholder p) p

-- at most all are placeholders
pub placeholders-few : (ps : List (List ℕ)) → placeholders ps ≤ length ps
unfolding placeholders
placeholders-few ps = grind (arith, length-filter, count_by-le-length)

-- ---- the first packets of a feed

pub length-feed_to : (plan : Plan) (stream : List (List ℕ)) (n : ℕ) → length (feed_to plan stream n) ≡ n
unfolding feed_to
length-feed_to plan stream zero = refl
length-feed_to plan stream (suc n) =
    let before = feed_to plan stream n in
    omega (arith, length-append before (fed_packet plan stream before n ∷ []), length-feed_to plan stream n)

-- packets that come later change none of them
ops_at-more : (plan : Plan) (stream more before : List (List ℕ)) (k : ℕ) → k ≤ length stream
    → ops_at plan (stream ++ more) before k ≡ ops_at plan stream before k
unfolding ops_at
ops_at-more plan stream more before k h = grind (arith, filled_groups-more)

fed_packet-more : (plan : Plan) (stream more before : List (List ℕ)) (k : ℕ) → k < length stream
    → fed_packet plan (stream ++ more) before k ≡ fed_packet plan stream before k
unfolding fed_packet counter_at
fed_packet-more plan stream more before k h = grind (arith, ops_at-more, take-append-le, get_or_append_left)

pub feed_to-more : (plan : Plan) (stream more : List (List ℕ)) (n : ℕ) → n ≤ length stream
    → feed_to plan (stream ++ more) n ≡ feed_to plan stream n
unfolding feed_to
feed_to-more plan stream more zero h = refl
feed_to-more plan stream more (suc n) h =
    rw (feed_to-more plan stream more n (omega arith), fed_packet-more plan stream more (feed_to plan stream n) n h)

pub take-feed_to : (plan : Plan) (stream : List (List ℕ)) (n m : ℕ) → n ≤ m
    → take n (feed_to plan stream m) ≡ feed_to plan stream n
unfolding feed_to
take-feed_to plan stream n zero h = grind (arith, take_all)
take-feed_to plan stream n (suc m) h = by_cases (take-feed_to plan stream n m) (cases_lt m n)
  where
    by_cases : (n ≤ m → take n (feed_to plan stream m) ≡ feed_to plan stream n) → (m < n) ⊎ (n ≤ m)
        → take n (feed_to plan stream (suc m)) ≡ feed_to plan stream n
    by_cases before (inl l) =
        let same : n ≡ suc m = omega arith in
        take_all n (feed_to plan stream (suc m)) (omega (arith, length-feed_to plan stream (suc m)))
        ∙ ap (feed_to plan stream) (sym same)
    by_cases before (inr l) = grind (arith, take-append-le, length-feed_to)

-- ---- whole feeds

pub length-feed : (plan : Plan) (stream : List (List ℕ)) → length (feed plan stream) ≡ length stream
unfolding feed
length-feed plan stream = length-feed_to plan stream (length stream)

-- the feed of a stream begins with that of its front
pub feed_front : (plan : Plan) (stream more : List (List ℕ))
    → take (length stream) (feed plan (stream ++ more)) ≡ feed plan stream
unfolding feed
feed_front plan stream more = grind (arith, take-feed_to, length-append, feed_to-more)

pub feed_parts : (plan : Plan) (stream more : List (List ℕ))
    → feed plan (stream ++ more) ≡ feed plan stream ++ drop (length stream) (feed plan (stream ++ more))
feed_parts plan stream more = sym (take-append-drop (length stream) (feed plan (stream ++ more)))
    ∙ ap (λ front. front ++ drop (length stream) (feed plan (stream ++ more))) (feed_front plan stream more)

pub feed-take : (plan : Plan) (stream : List (List ℕ)) (n : ℕ) → feed plan (take n stream) ≡ take n (feed plan stream)
feed-take plan stream n = elim (cases_lt (length stream) n) [
  | inl l ↦ grind (arith, take_all, length-feed)
  | inr l ↦ sym (feed_front plan (take n stream) (drop n stream))
      ∙ ap₂ (λ k whole. take k (feed plan whole)) (length-take-le n stream l) (take-append-drop n stream)
]

-- packet k of the feed
pub feed_packet : (plan : Plan) (stream : List (List ℕ)) (k : ℕ) → k < length stream
    → get_or (feed plan stream) k [] ≡ fed_packet plan stream (take k (feed plan stream)) k
unfolding feed feed_to
feed_packet plan stream k h =
    let before : List (List ℕ) = feed_to plan stream k in
    let this : List ℕ = fed_packet plan stream before k in
    sym (get_or-take (suc k) (feed_to plan stream (length stream)) k [] (omega arith))
    ∙ ap (λ front. get_or front k []) (take-feed_to plan stream (suc k) (length stream) h)
    ∙ ap (λ n. get_or (before ++ this ∷ []) n []) (sym (length-feed_to plan stream k))
    ∙ get_or-append_seam before this [] [] ∙ ap (λ front. fed_packet plan stream front k) (grind (arith, take-feed_to))

-- the feed of one packet more
pub feed_next : (plan : Plan) (stream : List (List ℕ)) (p : List ℕ) → feed plan (stream ++ p ∷ []) ≡ feed plan stream
    ++ as_feed_packet (ops_at plan stream (feed plan stream) (length stream)) (placeholders stream % 16)
    (length stream) p ∷ []
unfolding feed feed_to fed_packet counter_at
feed_next plan stream p = grind (arith, length-append, feed_to-more, ops_at-more, take-append_seam, get_or-append_seam)
