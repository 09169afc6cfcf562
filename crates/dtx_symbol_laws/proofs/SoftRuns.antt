-- The runs of what `soft` makes are those of its segments: it copies each segment that may begin or end a run.
use Rattle.std.proofs.Common.{◌≡◌, ℕ, ℤ, zero, suc, ◌+◌, ◌%◌, ◌<◌, ◌≤◌, ◌==◌, Bool, true, false, cond, Option, Some}
use Rattle.std.proofs.Common.{None, option_map, List, [], ◌∷◌, ◌++◌, length, map, take, get_or, refl, sym, ap, ◌∙◌, ◌-◌}
use Rattle.std.proofs.Common.{subst₂, arith}
use Rattle.std.proofs.lemmas.List.{length_push, map-append, take_more, take_all}
use Rattle.std.proofs.lemmas.List.FromFn.{get_or-map-range_with_len, length-map-range_with_len}
use Rattle.dtx_frame.specs.Detection.{looks_like}
use Rattle.dtx_receiver.specs.declared.tracking.Tracking.TheVariants.{Searching, Began}
use Rattle.dtx_receiver.proofs.FollowingLemmas.{tracked_push}
use Rattle.dtx_receiver.specs.Runs.{followed, runs, sync_due, Tracked, tracked, tracking, tracking_of}
use Rattle.dtx_recipes.specs.Soft.{next_place, place_in, soft_at, soft_from, soft_symbols}

-- runs of the same lengths
record AreAlike (s t : Tracked) : Type 0 where
  ended : map length s.ended ≡ map length t.ended
  run : option_map length s.run ≡ option_map length t.run

abbrev CopiesSyncs : Option (List (List ℤ)) → Bool → Bool → Type 0
CopiesSyncs run looks other = place_in run ≡ None → looks ≡ other

same_length : (r q : List (List ℤ)) → Some (length r) ≡ Some (length q) → length r ≡ length q
same_length r q h = cc

same_due : (r q : List (List ℤ)) → length r ≡ length q → sync_due r ≡ sync_due q
unfolding sync_due
same_due r q h = ap (λ n. n % 313 == 0) h

where_due : (q : List (List ℤ)) (b : Bool) → sync_due q ≡ b → b ≡ true → place_in (Some q) ≡ None
where_due q true e h = ap (λ (b : Bool). cond b None (Some (length q % 313 - 1))) e
where_due q false e h = cc

abbrev outcome : Bool → Bool → List (List (List ℤ)) → List (List ℤ) → List ℤ → Tracked
outcome due looks ended run x = cond due (cond looks (record { ended = ended; run = Some (run ++ x ∷ []) })
    (record { ended = ended ++ run ∷ []; run = None })) (record { ended = ended; run = Some (run ++ x ∷ []) })

-- one segment further
on_run : (e f : List (List (List ℤ))) (r q : List (List ℤ)) (x y : List ℤ) → map length e ≡ map length f
    → length r ≡ length q
    → (d c l k : Bool) → d ≡ c → (c ≡ true → l ≡ k) → AreAlike (outcome d l e r x) (outcome c k f q y)
on_run e f r q x y a b d c l k same syncs = grind (arith, length_push, map-append)

further : (e f : List (List (List ℤ))) (o p : Option (List (List ℤ))) (x y : List ℤ) → map length e ≡ map length f
    → option_map length o ≡ option_map length p → CopiesSyncs p (looks_like x) (looks_like y)
    → AreAlike (followed e o x) (followed f p y)
further e f None None x y a b syncs = grind arith
further e f None (Some q) x y a b syncs = cc
further e f (Some r) None x y a b syncs = cc
further e f (Some r) (Some q) x y a b syncs =
    let long = same_length r q b in
    on_run e f r q x y a long (sync_due r) (sync_due q) (looks_like x) (looks_like y) (same_due r q long)
    (λ h. syncs (where_due q (sync_due q) refl h))

told : (o p : Option (List (List ℤ))) (l k : Bool) → option_map length o ≡ option_map length p → CopiesSyncs p l k
    → tracking_of o l ≡ tracking_of p k
told None None l k b syncs = ap (λ (l : Bool). cond l Began Searching) (syncs refl)
told None (Some q) l k b syncs = cc
told (Some r) None l k b syncs = cc
told (Some r) (Some q) l k b syncs = grind (arith, same_due, same_length, where_due)

-- ---- all segments

pub soft_length : (s : List (List ℤ)) → length (soft_symbols s) ≡ length s
unfolding soft_symbols
soft_length s = length-map-range_with_len (soft_at s) 0 (length s)

pub soft_entry : (s : List (List ℤ)) (i : ℕ) → i < length s → get_or (soft_symbols s) i [] ≡ soft_at s i
unfolding soft_symbols
soft_entry s i l = get_or-map-range_with_len (soft_at s) 0 (length s) i i [] l (omega arith)

pub copied : (s : List (List ℤ)) (i : ℕ) → i < length s → place_in (tracked (take i s)).run ≡ None
    → get_or (soft_symbols s) i [] ≡ get_or s i []
unfolding soft_at next_place
copied s i l h = soft_entry s i l ∙ ap (soft_from s i) h

looks_same : (s : List (List ℤ)) (i : ℕ) → i < length s
    → CopiesSyncs (tracked (take i s)).run (looks_like (get_or (soft_symbols s) i [])) (looks_like (get_or s i []))
looks_same s i l h = ap looks_like (copied s i l h)

alike : (s : List (List ℤ)) (i : ℕ) → i ≤ length s → AreAlike (tracked (take i (soft_symbols s))) (tracked (take i s))
alike s zero l = record { ended = refl; run = refl }
alike s (suc i) l =
    let h = alike s i (omega arith) in
    let next : suc i ≡ i + 1 = omega arith in
    subst₂ (λ (t u : Tracked). AreAlike t u) (sym (pushed (soft_symbols s) (omega (arith, soft_length s))))
    (sym (pushed s (omega arith))) (grind (arith, further, looks_same))
  where
    pushed : (t : List (List ℤ)) → i < length t
        → tracked (take (suc i) t) ≡ followed (tracked (take i t)).ended (tracked (take i t)).run (get_or t i [])
    pushed t m =
        let next : suc i ≡ i + 1 = omega arith in
        ap (λ n. tracked (take n t)) next ∙ ap tracked (take_more t i [] m) ∙ tracked_push (take i t) (get_or t i [])

all_alike : (s : List (List ℤ)) → AreAlike (tracked (soft_symbols s)) (tracked s)
all_alike s = subst₂ (λ t u. AreAlike (tracked t) (tracked u)) (grind (arith, take_all, soft_length))
    (take_all (length s) s (omega arith)) (alike s (length s) (omega arith))

-- as many runs, of the same lengths
pub soft_runs : (s : List (List ℤ)) → map length (runs (soft_symbols s)) ≡ map length (runs s)
unfolding runs
soft_runs s = grind (arith, all_alike, same_length, map-append)

-- each segment is told to be what it was
pub soft_tracking : (s : List (List ℤ)) (i : ℕ) → i < length s
    → tracking (take i (soft_symbols s)) (get_or (soft_symbols s) i []) ≡ tracking (take i s) (get_or s i [])
unfolding tracking
soft_tracking s i l = grind (arith, alike, told, looks_same)
