-- The packets of a run: only its first group may hold placeholders.
use Rattle.std.proofs.Common.{◌≡◌, ◌⊎◌, inl, inr, ℕ, ◌+◌, ◌-◌, ◌/◌, ◌%◌, ◌<◌, ◌≤◌, Bool, true, false, cond, List, []}
use Rattle.std.proofs.Common.{◌∷◌, ◌++◌, length, take, drop, get_or, refl, ap, sym, subst, ◌∙◌, arith, append_assoc}
use Rattle.std.proofs.Math.Seq.{take-add}
use Rattle.std.proofs.lemmas.Bool.{cases_lt}
use Rattle.std.proofs.lemmas.List.{take-append-drop, take-take, drop-take, take_more, drop_all, drop-append-le}
use Rattle.std.proofs.lemmas.List.{length-take, length-append, append-nil, drop-drop}
use Rattle.dtx_coder.specs.Stream.{states}
use Rattle.dtx_plan.specs.declared.plan.Plan.{Plan}
use Rattle.dtx_adapter.specs.Feed.{is_placeholder, placeholders, feed}
use Rattle.dtx_adapter.specs.Filling.{Filling, Fills, begun}
use Rattle.dtx_adapter.proofs.FeedsLemmas.{placeholders-append, placeholders-one, length-feed, feed_parts}
use Rattle.dtx_adapter.proofs.MakingLemmas.{fills_begun}

-- ---- packets with no placeholder

pub take_none : (ps : List (List ℕ)) (n : ℕ) → placeholders ps ≡ 0 → placeholders (take n ps) ≡ 0
take_none ps n none =
    omega (arith, none, placeholders-append (take n ps) (drop n ps), ap placeholders (take-append-drop n ps))

drop_none : (ps : List (List ℕ)) (n : ℕ) → placeholders ps ≡ 0 → placeholders (drop n ps) ≡ 0
drop_none ps n none =
    omega (arith, none, placeholders-append (take n ps) (drop n ps), ap placeholders (take-append-drop n ps))

none_in_one : (b : Bool) (n : ℕ) → n + cond b 1 0 ≡ 0 → b ≡ false
none_in_one true n e = absurd (omega (arith, e))
none_in_one false n e = refl

-- none of them is one
pub not_one : (ps : List (List ℕ)) (i : ℕ) (d : List ℕ) → i < length ps → placeholders ps ≡ 0
    → is_placeholder (get_or ps i d) ≡ false
not_one ps i d within none = none_in_one (is_placeholder (get_or ps i d)) (placeholders (take i ps))
    (ap (λ n. placeholders (take i ps) + n) (sym (placeholders-one (get_or ps i d)))
    ∙ sym (placeholders-append (take i ps) ((get_or ps i d) ∷ [])) ∙ ap placeholders (sym (take_more ps i d within))
    ∙ take_none ps (i + 1) none)

-- ---- those behind the first group

-- behind a first group alone there are none
pub none_behind : (ps : List (List ℕ)) (i : ℕ) → i ≤ 4 → placeholders (drop 4 (take i ps)) ≡ 0
unfolding placeholders
none_behind ps i few = ap placeholders (drop_all 4 (take i ps) (omega (arith, few, length-take i ps)))

behind : (ps : List (List ℕ)) (i : ℕ) → 4 ≤ i → drop 4 (take i ps) ≡ take (i - 4) (drop 4 ps)
behind ps i l = ap (λ n. drop 4 (take n ps)) (omega (arith, l)) ∙ drop-take 4 (i - 4) ps

-- fewer packets hold none either
pub fewer_behind : (ps : List (List ℕ)) (i j : ℕ) → 4 ≤ j → j ≤ i → placeholders (drop 4 (take i ps)) ≡ 0
    → placeholders (drop 4 (take j ps)) ≡ 0
fewer_behind ps i j l m none = ap placeholders (behind ps j l ∙ sym (grind (arith, take-take)))
    ∙ take_none (take (i - 4) (drop 4 ps)) (j - 4) (ap placeholders (sym (behind ps i (omega (arith, l, m)))) ∙ none)

-- one packet more, which is none
pub none_more : (ps : List (List ℕ)) (i : ℕ) (d : List ℕ) → 4 ≤ i → i < length ps
    → is_placeholder (get_or ps i d) ≡ false → placeholders (drop 4 (take i ps)) ≡ 0
    → placeholders (drop 4 (take (i + 1) ps)) ≡ 0
none_more ps i d l within not none =
    let p : List ℕ = get_or ps i d in
    let all : placeholders (drop 4 (take (i + 1) ps)) ≡ placeholders (drop 4 (take i ps)) + placeholders (p ∷ []) =
    ap (λ front. placeholders (drop 4 front)) (take_more ps i d within)
    ∙ ap placeholders (drop-append-le 4 (take i ps) (p ∷ []) (omega (arith, l, within, length-take i ps)))
    ∙ placeholders-append (drop 4 (take i ps)) (p ∷ []) in
    let one : placeholders (p ∷ []) ≡ 0 = placeholders-one p ∙ ap (λ b. cond b 1 0) not in
    omega (arith, all, one, none)

-- a group behind the first one holds none
later_none : (ps : List (List ℕ)) (done n : ℕ) → 4 ≤ done → placeholders (drop 4 ps) ≡ 0
    → placeholders (take n (drop done ps)) ≡ 0
later_none ps done n l none =
    let e : 4 + (done - 4) ≡ done = omega (arith, l) in
    take_none (drop done ps) n (rw (← e, ← drop-drop (done - 4) 4 ps, drop_none (drop 4 ps) (done - 4) none))

-- ---- parts of a stream

-- what is not made yet behind the part
pub rest_on : (old now : List (List ℕ)) (done n end : ℕ) → done + n ≡ end → drop done now ≡ drop done old
    → drop end now ≡ drop end old
rest_on old now done n end sum rest = rw (← sum, ← drop-drop n done now, rest, drop-drop n done old, sum)

-- a part behind others of it
pub part_on : (stream old : List (List ℕ)) (done n end : ℕ) → done + n ≡ end
    → (stream ++ take done old) ++ take n (drop done old) ≡ stream ++ take end old
part_on stream old done n end sum = simp (append_assoc, ← take-add, sum)

-- its feed
pub fed_on : (plan : Plan) (stream front part all xs ys : List (List ℕ)) → (stream ++ front) ++ part ≡ all
    → xs ≡ drop (length stream) (feed plan (stream ++ front))
    → ys ≡ drop (length (stream ++ front)) (feed plan ((stream ++ front) ++ part))
    → xs ++ ys ≡ drop (length stream) (feed plan all)
fed_on plan stream front part all xs ys whole first second =
    grind (arith, drop-append-le, length-feed, length-append, feed_parts)

-- and its placeholders
pub filled_on : (old : List (List ℕ)) (done n end some more : ℕ) → done + n ≡ end → some ≡ placeholders (take done old)
    → more ≡ placeholders (take n (drop done old)) → some + more ≡ placeholders (take end old)
filled_on old done n end some more sum e f = grind (arith, placeholders-append, take-add)

-- ---- a group of a run

-- the group that begins
pub begins : (plan : Plan) (old new : Filling) (stream : List (List ℕ)) (told : List ℕ) (first : ℕ)
    → Fills plan old stream ((length stream - 1) / 4) → length stream ≡ first → first % 4 ≡ 0 → new ≡ begun old told
    → Fills plan new stream (first / 4)
begins plan old new stream told first fills long whole e =
    fills_begun plan old new stream told (first / 4) fills (omega (arith, long, whole)) e

-- it is the one of the last packet
pub at_hand : (plan : Plan) (filling : Filling) (stream : List (List ℕ)) (first n : ℕ) → first % 4 ≡ 0 → 0 < n → n ≤ 4
    → length stream ≡ first + n → Fills plan filling stream (first / 4)
    → Fills plan filling stream ((length stream - 1) / 4)
at_hand plan filling stream first n whole some few long fills =
    let same : first / 4 ≡ (length stream - 1) / 4 = omega (arith, whole, some, few, long) in
    subst (Fills plan filling stream) same fills

begun_states : (old new : Filling) (told : List ℕ) → new ≡ begun old told → new.states ≡ told
unfolding begun
begun_states old new told e = ap (λ (f : Filling). f.states) e

-- Before the first group the states are those that are told. A later one holds no placeholder.
pub tells : (plan : Plan) (stream old : List (List ℕ)) (done n : ℕ) (filler new : Filling) (told : List ℕ)
    → done % 4 ≡ 0 → placeholders (drop 4 old) ≡ 0 → new ≡ begun filler told → told ≡ states (feed plan stream)
    → (placeholders (take n (drop done old)) ≡ 0) ⊎ (new.states ≡ states (feed plan (stream ++ take done old)))
tells plan stream old done n filler new told whole none e known = elim (cases_lt 0 done) [
  | inl l ↦ inl (later_none old done n (omega (arith, l, whole)) none)
  | inr m ↦
      let zero : done ≡ 0 = omega (arith, m) in
      inr (begun_states filler new told e ∙ known ∙ ap (λ s. states (feed plan s)) (sym (grind (arith, append-nil))))
]
