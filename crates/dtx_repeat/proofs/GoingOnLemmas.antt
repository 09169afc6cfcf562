-- The lives of an exciter that is fed by a receiver, with one segment more and at the end of a list.
use Rattle.std.proofs.Common.{◌≡◌, ◌≢◌, ℕ, ℤ, ◌+◌, ◌%◌, ◌<◌, ◌⊎◌, Bool, true, false, Option, Some, None, IfSome, List}
use Rattle.std.proofs.Common.{[], ◌∷◌, ◌++◌, length, map, refl, sym, ap, ◌∙◌, subst, inl, inr, append_assoc, arith}
use Rattle.std.proofs.Common.{cond, add-zero, option_to_list, append-nil, length-append}
use Rattle.std.specs.List.{flat_map}
use Rattle.std.proofs.lemmas.Bool.{cases_eq}
use Rattle.std.proofs.lemmas.List.{append_cancel_left, get_or_append_left, map-append}
use Rattle.std.proofs.lemmas.Grind.{flat_map-append}
use Rattle.dtx_frame.specs.Detection.{looks_like, looks_second}
use Rattle.dtx_receiver.specs.Bytes.{bytes_in}
use Rattle.dtx_receiver.proofs.EarlyLemmas.{early_nothing}
use Rattle.dtx_receiver.proofs.FollowingLemmas.{searching, began, sync_came, ended_there, data_came}
use Rattle.dtx_receiver.proofs.IntervalsLemmas.{some_segment}
use Rattle.dtx_receiver.specs.Packets.{run_packets, early_of, all_packets, packets_so_far}
use Rattle.dtx_receiver.specs.Runs.{Tracked, begun, tracked, runs, tracking}
use Rattle.dtx_receiver.proofs.SegmentsLemmas.{first_bytes}
use Rattle.dtx_receiver.specs.declared.batch.Received.{Received}
use Rattle.dtx_receiver.specs.declared.tracking.Tracking.{Tracking}
use Rattle.dtx_receiver.specs.declared.tracking.Tracking.TheVariants.{Searching, Began, Sync, Data, Ended}
use Rattle.dtx_repeat.specs.GoingOn.{last_life, longer}
use Rattle.dtx_repeat.specs.Lives.{packets_in, life_of, lives, lives_so_far}
use Rattle.dtx_repeat.specs.Repeater.{given_behind, next_place}
use Rattle.dtx_repeat.specs.Restored.{place_behind, first_place, restored, run_restored, early_restored, all_restored}
use Rattle.dtx_repeat.specs.Restored.{restored_so_far}
use Rattle.dtx_repeat.proofs.RestoredLemmas.{restored_none, restored_behind, packets_in-append}

-- After more segments these packets are restored, from a place in the frame on, and given to the last life.
pub record GoesOn (before next : List (List ℤ)) (from : ℕ) (packets : List Received) : Type 0 where
  pub behind : restored_so_far next ≡ restored_so_far before ++ restored from packets
  pub place : IfSome (tracked next).run (λ run. (from + length packets) % 624 ≡ next_place run)
  pub lives : lives_so_far next ≡ longer (lives_so_far before) (packets_in (restored from packets))
  pub none : lives_so_far before ≡ [] → packets ≡ []

-- One more segment begins a run, and gives no packets.
pub record Begins (before next : List (List ℤ)) (x : List ℤ) (packets : List Received) : Type 0 where
  pub nothing : packets ≡ []
  pub behind : restored_so_far next ≡ restored_so_far before ++ []
  pub place : IfSome (tracked next).run (λ run. place_behind x ≡ next_place run)
  pub lives : lives_so_far next ≡ lives_so_far before ++ [] ∷ []

-- At the end of the list these packets are restored and given to the last life.
pub record Ends (segments : List (List ℤ)) (from : ℕ) (packets : List Received) : Type 0 where
  pub behind : all_restored segments ≡ restored_so_far segments ++ restored from packets
  pub lives : lives segments ≡ longer (lives_so_far segments) (packets_in (restored from packets))
  pub none : lives_so_far segments ≡ [] → packets ≡ []

-- ---- longer lives

pub longer_last : (xs : List (List (List ℕ))) (life packets : List (List ℕ))
    → longer (xs ++ life ∷ []) packets ≡ xs ++ (life ++ packets) ∷ []
longer_last [] life packets = refl
longer_last (x ∷ []) life packets = refl
longer_last (x ∷ (y ∷ xs)) life packets = ap (λ z. x ∷ z) (longer_last (y ∷ xs) life packets)

pub longer_none : (xs : List (List (List ℕ))) → longer xs [] ≡ xs
longer_none [] = refl
longer_none (x ∷ []) = ap (λ z. z ∷ []) (append-nil x)
longer_none (x ∷ (y ∷ xs)) = ap (λ z. x ∷ z) (longer_none (y ∷ xs))

pub longer_longer : (xs : List (List (List ℕ))) (a b : List (List ℕ)) → longer (longer xs a) b ≡ longer xs (a ++ b)
longer_longer [] a b = refl
longer_longer (x ∷ []) a b = ap (λ z. z ∷ []) (append_assoc x a b)
longer_longer (x ∷ (y ∷ [])) a b = ap (λ z. x ∷ (z ∷ [])) (append_assoc y a b)
longer_longer (x ∷ (y ∷ (z ∷ xs))) a b = ap (λ w. x ∷ w) (longer_longer (y ∷ (z ∷ xs)) a b)

pub length-longer : (xs : List (List (List ℕ))) (a : List (List ℕ)) → length (longer xs a) ≡ length xs
length-longer [] a = refl
length-longer (x ∷ []) a = refl
length-longer (x ∷ (y ∷ xs)) a = omega (arith, length-longer (y ∷ xs) a)

pub last_begun : (xs : List (List (List ℕ))) → last_life (xs ++ [] ∷ []) ≡ []
last_begun [] = refl
last_begun (x ∷ []) = refl
last_begun (x ∷ (y ∷ xs)) = last_begun (y ∷ xs)

pub last_longer_one : (xs : List (List (List ℕ))) (a : List (List ℕ)) → 0 < length xs
    → last_life (longer xs a) ≡ last_life xs ++ a
last_longer_one [] a some = absurd (omega (arith, some))
last_longer_one (x ∷ []) a some = refl
last_longer_one (x ∷ (y ∷ [])) a some = refl
last_longer_one (x ∷ (y ∷ (z ∷ xs))) a some = last_longer_one (y ∷ (z ∷ xs)) a (omega arith)

-- ---- by the runs

abbrev restored_with : List (List (List ℤ)) → Option (List (List ℤ)) → List Received
restored_with ended o = flat_map run_restored ended ++ flat_map early_restored (option_to_list o)

abbrev lives_with : List (List (List ℤ)) → Option (List (List ℤ)) → List (List (List ℕ))
lives_with ended o = map life_of ended ++ map (λ run. packets_in (early_restored run)) (option_to_list o)

restored_is : (s : List (List ℤ)) (t : Tracked) → tracked s ≡ t → restored_so_far s ≡ restored_with t.ended t.run
unfolding restored_so_far
restored_is s t e = ap (λ (u : Tracked). restored_with u.ended u.run) e

lives_is : (s : List (List ℤ)) (t : Tracked) → tracked s ≡ t → lives_so_far s ≡ lives_with t.ended t.run
unfolding lives_so_far
lives_is s t e = ap (λ (u : Tracked). lives_with u.ended u.run) e

-- a run more, whose packets are these
with_last : (ended : List (List (List ℤ))) (run : List (List ℤ)) (early brought : List Received)
    → run_restored run ≡ early ++ brought
    → flat_map run_restored (ended ++ run ∷ []) ≡ (flat_map run_restored ended ++ early) ++ brought
with_last ended run early brought e = grind (arith, flat_map-append, append-nil, append_assoc)

-- ---- what is brought

abbrev whole_in : List (List (List ℤ)) → List Received
whole_in ended = flat_map (λ r. run_packets (bytes_in r)) ended

abbrev packets_with : List (List (List ℤ)) → Option (List (List ℤ)) → List Received
packets_with ended o = whole_in ended ++ flat_map (λ r. early_of (bytes_in r)) (option_to_list o)

packets_is : (s : List (List ℤ)) (t : Tracked) → tracked s ≡ t → packets_so_far s ≡ packets_with t.ended t.run
unfolding packets_so_far
packets_is s t e = ap (λ (u : Tracked). packets_with u.ended u.run) e

packets_none : (s : List (List ℤ)) (ended : List (List (List ℤ)))
    → tracked s ≡ record { ended = ended; run = None } → packets_so_far s ≡ whole_in ended
packets_none s ended e = packets_is s (record { ended = ended; run = None }) e ∙ append-nil (whole_in ended)

packets_run : (s : List (List ℤ)) (ended : List (List (List ℤ))) (run : List (List ℤ))
    → tracked s ≡ record { ended = ended; run = Some run }
    → packets_so_far s ≡ whole_in ended ++ early_of (bytes_in run)
packets_run s ended run e = grind (arith, packets_is, append-nil)

-- where packets of one run come behind those of the runs before it
cancelled : (ended : List (List (List ℤ))) (early brought whole before : List Received)
    → before ≡ whole_in ended ++ early → whole_in ended ++ whole ≡ before ++ brought → whole ≡ early ++ brought
cancelled ended early brought whole before e f =
    append_cancel_left (whole_in ended) whole (early ++ brought) (grind (arith, append_assoc))

pub nothing_more : (before brought : List Received) → before ≡ before ++ brought → brought ≡ []
nothing_more before brought e = sym (append_cancel_left before [] brought (append-nil before ∙ e))

ended_more : (ended : List (List (List ℤ))) (run : List (List ℤ))
    → whole_in (ended ++ run ∷ []) ≡ whole_in ended ++ run_packets (bytes_in run)
ended_more ended run = grind (arith, flat_map-append, append-nil)

all_is : (s : List (List ℤ)) (t : Tracked) → tracked s ≡ t → all_packets s ≡ whole_in (t.ended ++ option_to_list t.run)
unfolding all_packets runs
all_is s t e = ap (λ (u : Tracked). whole_in (u.ended ++ option_to_list u.run)) e

all_restored_is : (s : List (List ℤ)) (t : Tracked) → tracked s ≡ t
    → all_restored s ≡ flat_map run_restored (t.ended ++ option_to_list t.run)
unfolding all_restored runs
all_restored_is s t e = ap (λ (u : Tracked). flat_map run_restored (u.ended ++ option_to_list u.run)) e

all_lives_are : (s : List (List ℤ)) (t : Tracked) → tracked s ≡ t
    → lives s ≡ map life_of (t.ended ++ option_to_list t.run)
unfolding lives runs
all_lives_are s t e = ap (λ (u : Tracked). map life_of (u.ended ++ option_to_list u.run)) e

-- the runs by whether one is on
now : (s : List (List ℤ)) (o : Option (List (List ℤ))) → (tracked s).run ≡ o
    → tracked s ≡ record { ended = (tracked s).ended; run = o }
now s o e = ap (λ o. record { ended = (tracked s).ended; run = o }) e

-- the first field sync of a run stays its first
first_stays : (run : List (List ℤ)) (x : List ℤ) → 0 < length run → first_place (run ++ x ∷ []) ≡ first_place run
first_stays run x l = ap place_behind (get_or_append_left run (x ∷ []) [] 0 l)

-- ---- a run begins

nothing_early : (x : List ℤ) → early_of (bytes_in (x ∷ [])) ≡ []
nothing_early x = ap early_of (first_bytes x) ∙ early_nothing

nothing_restored : (x : List ℤ) → early_restored (x ∷ []) ≡ []
unfolding early_restored
nothing_restored x = ap (restored (first_place (x ∷ []))) (nothing_early x) ∙ restored_none (first_place (x ∷ []))

in_frame : (x : List ℤ) → place_behind x % 624 ≡ place_behind x
unfolding place_behind
in_frame x = by_second (looks_second x)
  where
    by_second : (b : Bool) → cond b 312 0 % 624 ≡ cond b 312 0
    by_second true = refl
    by_second false = refl

place_first : (x : List ℤ) → place_behind x ≡ next_place (x ∷ [])
place_first x =
    sym (ap (λ (ps : List Received). (place_behind x + length ps) % 624) (nothing_early x)
    ∙ ap (λ (n : ℕ). n % 624) (add-zero (place_behind x)) ∙ in_frame x)

begun_with : (s : List (List ℤ)) (x : List ℤ) (packets : List Received) (ended : List (List (List ℤ)))
    → tracked s ≡ record { ended = ended; run = None }
    → tracked (s ++ x ∷ []) ≡ record { ended = ended; run = Some (x ∷ []) }
    → packets_so_far (s ++ x ∷ []) ≡ packets_so_far s ++ packets → Begins s (s ++ x ∷ []) x packets
begun_with s x packets ended e f h = record {
  nothing = nothing_more (packets_so_far s) packets (packets_none s ended e
      ∙ sym (append-nil (whole_in ended)) ∙ ap (λ z. whole_in ended ++ z) (sym (nothing_early x))
      ∙ sym (packets_run (s ++ x ∷ []) ended (x ∷ []) f) ∙ h);
  behind = grind (arith, restored_is, nothing_restored, append-nil);
  place = subst (λ (t : Tracked). IfSome t.run (λ run. place_behind x ≡ next_place run)) (sym f) (place_first x);
  lives = grind (arith, lives_is, nothing_restored, append-nil);
}

-- ---- a run goes on or ends

-- its packets, of which some were given before
behind_early : (run : List (List ℤ)) (p : ℕ) (whole packets : List Received) → p ≡ next_place run
    → whole ≡ early_of (bytes_in run) ++ packets
    → restored (first_place run) whole ≡ early_restored run ++ restored p packets
unfolding early_restored
behind_early run p whole packets e f = grind (arith, restored_behind)

-- the lives, where the run that is on has these packets more
last_longer : (s : List (List ℤ)) (ended : List (List (List ℤ))) (run : List (List ℤ)) (more : List Received)
    → tracked s ≡ record { ended = ended; run = Some run }
    → longer (lives_so_far s) (packets_in more) ≡ map life_of ended ++ packets_in (early_restored run ++ more) ∷ []
last_longer s ended run more e = grind (arith, lives_is, longer_last, packets_in-append)

some_lives : {X : Type 0} (xs : List X) (x : X) → xs ++ x ∷ [] ≢ []
some_lives xs x e = omega (arith, ap length e, length-append xs (x ∷ []))

not_none : (s : List (List ℤ)) (ended : List (List (List ℤ))) (run : List (List ℤ)) (packets : List Received)
    → tracked s ≡ record { ended = ended; run = Some run } → lives_so_far s ≡ [] → packets ≡ []
not_none s ended run packets e f =
    absurd (some_lives (map life_of ended) (packets_in (early_restored run))
    (sym (lives_is s (record { ended = ended; run = Some run }) e) ∙ f))

on_with : (s : List (List ℤ)) (x : List ℤ) (p : ℕ) (packets : List Received) (ended : List (List (List ℤ)))
    (run : List (List ℤ)) → tracked s ≡ record { ended = ended; run = Some run } → 0 < length run
    → tracked (s ++ x ∷ []) ≡ record { ended = ended; run = Some (run ++ x ∷ []) } → p ≡ next_place run
    → packets_so_far (s ++ x ∷ []) ≡ packets_so_far s ++ packets → GoesOn s (s ++ x ∷ []) p packets
unfolding early_restored
on_with s x p packets ended run e some f place h =
    let new : List (List ℤ) = run ++ x ∷ [] in
    let early : early_of (bytes_in new) ≡ early_of (bytes_in run) ++ packets =
    cancelled ended (early_of (bytes_in run)) packets (early_of (bytes_in new)) (packets_so_far s)
    (packets_run s ended run e) (sym (packets_run (s ++ x ∷ []) ended new f) ∙ h) in
    let first : first_place new ≡ first_place run = first_stays run x some in
    let both : early_restored new ≡ early_restored run ++ restored p packets =
    grind (arith, first, behind_early, early) in
    record {
      behind = grind (arith, restored_is, append-nil, append_assoc, both);
      place = subst (λ (t : Tracked). IfSome t.run (λ run. (p + length packets) % 624 ≡ next_place run)) (sym f)
          (omega (arith, place, ap length early, length-append (early_of (bytes_in run)) packets, first));
      lives = grind (arith, lives_is, last_longer, both);
      none = not_none s ended run packets e;
    }

-- all packets of the run that is on
whole_run : (s : List (List ℤ)) (p : ℕ) (packets : List Received) (ended : List (List (List ℤ))) (run : List (List ℤ))
    → tracked s ≡ record { ended = ended; run = Some run } → p ≡ next_place run
    → whole_in (ended ++ run ∷ []) ≡ packets_so_far s ++ packets
    → run_restored run ≡ early_restored run ++ restored p packets
unfolding run_restored
whole_run s p packets ended run e place h =
    behind_early run p (run_packets (bytes_in run)) packets place
    (cancelled ended (early_of (bytes_in run)) packets (run_packets (bytes_in run)) (packets_so_far s)
    (packets_run s ended run e) (sym (ended_more ended run) ∙ h))

whole_restored : (s : List (List ℤ)) (p : ℕ) (packets : List Received) (ended : List (List (List ℤ)))
    (run : List (List ℤ)) → tracked s ≡ record { ended = ended; run = Some run }
    → run_restored run ≡ early_restored run ++ restored p packets
    → flat_map run_restored (ended ++ run ∷ []) ≡ restored_so_far s ++ restored p packets
whole_restored s p packets ended run e is = grind (arith, with_last, restored_is, append-nil)

whole_lives : (s : List (List ℤ)) (p : ℕ) (packets : List Received) (ended : List (List (List ℤ)))
    (run : List (List ℤ)) → tracked s ≡ record { ended = ended; run = Some run }
    → run_restored run ≡ early_restored run ++ restored p packets
    → map life_of (ended ++ run ∷ []) ≡ longer (lives_so_far s) (packets_in (restored p packets))
unfolding life_of
whole_lives s p packets ended run e is = grind (arith, map-append, last_longer)

ended_with : (s : List (List ℤ)) (x : List ℤ) (p : ℕ) (packets : List Received) (ended : List (List (List ℤ)))
    (run : List (List ℤ)) → tracked s ≡ record { ended = ended; run = Some run }
    → tracked (s ++ x ∷ []) ≡ record { ended = ended ++ run ∷ []; run = None } → p ≡ next_place run
    → packets_so_far (s ++ x ∷ []) ≡ packets_so_far s ++ packets → GoesOn s (s ++ x ∷ []) p packets
ended_with s x p packets ended run e f place h =
    let is : run_restored run ≡ early_restored run ++ restored p packets =
    whole_run s p packets ended run e place (sym (packets_none (s ++ x ∷ []) (ended ++ run ∷ []) f) ∙ h) in
    record {
      behind = grind (arith, restored_is, append-nil, whole_restored);
      place = subst (λ (t : Tracked). IfSome t.run (λ run. (p + length packets) % 624 ≡ next_place run)) (sym f) _;
      lives = grind (arith, lives_is, append-nil, whole_lives);
      none = not_none s ended run packets e;
    }

-- ---- where none is on

searched_with : (s : List (List ℤ)) (x : List ℤ) (p : ℕ) (packets : List Received) (ended : List (List (List ℤ)))
    → tracked s ≡ record { ended = ended; run = None }
    → tracked (s ++ x ∷ []) ≡ record { ended = ended; run = None }
    → packets_so_far (s ++ x ∷ []) ≡ packets_so_far s ++ packets → GoesOn s (s ++ x ∷ []) p packets
searched_with s x p packets ended e f h =
    let none : packets ≡ [] =
    nothing_more (packets_so_far s) packets
    (packets_none s ended e ∙ sym (packets_none (s ++ x ∷ []) ended f) ∙ h) in
    let nothing : restored p packets ≡ [] = ap (restored p) none ∙ restored_none p in
    let o : Tracked = record { ended = ended; run = None } in
    record {
      behind = grind (arith, restored_is, append-nil, nothing);
      place = subst (λ (t : Tracked). IfSome t.run (λ run. (p + length packets) % 624 ≡ next_place run)) (sym f) _;
      lives = grind (arith, lives_is, longer_none, nothing);
      none = λ _. none;
    }

-- ---- one segment more, by what it is told to be

abbrev pub Steps : List (List ℤ) → List ℤ → ℕ → List Received → Tracking → Type 0
Steps s x p packets Began = Begins s (s ++ x ∷ []) x packets
Steps s x p packets tracking = GoesOn s (s ++ x ∷ []) p packets

-- where it begins no run
pub goes_on : (s : List (List ℤ)) (x : List ℤ) (p : ℕ) (packets : List Received) (t : Tracking) → begun t ≡ 0
    → Steps s x p packets t → GoesOn s (s ++ x ∷ []) p packets
goes_on s x p packets Searching none is = is
goes_on s x p packets Sync none is = is
goes_on s x p packets Data none is = is
goes_on s x p packets Ended none is = is
goes_on s x p packets Began none is = absurd (omega (arith, none))

pub given_stays : (given : List (List ℕ)) (t : Tracking) → begun t ≡ 0 → given_behind t given ≡ given
given_stays given Searching none = refl
given_stays given Sync none = refl
given_stays given Data none = refl
given_stays given Ended none = refl
given_stays given Began none = absurd (omega (arith, none))

pub begins_one : (t : Tracking) → begun t ≡ 1 → t ≡ Began
begins_one Searching e = absurd (omega (arith, e))
begins_one Sync e = absurd (omega (arith, e))
begins_one Data e = absurd (omega (arith, e))
begins_one Ended e = absurd (omega (arith, e))
begins_one Began e = refl

pub one_more : (s : List (List ℤ)) (x : List ℤ) (p : ℕ) (packets : List Received)
    → IfSome (tracked s).run (λ run. p ≡ next_place run)
    → packets_so_far (s ++ x ∷ []) ≡ packets_so_far s ++ packets → Steps s x p packets (tracking s x)
one_more s x p packets place h = by_run (tracked s).run refl (looks_like x) refl
  where
    ended : List (List (List ℤ))
    ended = (tracked s).ended

    told : (t : Tracking) → t ≡ tracking s x → Steps s x p packets t → Steps s x p packets (tracking s x)
    told t e is = subst (Steps s x p packets) e is

    by_run : (o : Option (List (List ℤ))) → (tracked s).run ≡ o → (b : Bool) → looks_like x ≡ b
        → Steps s x p packets (tracking s x)
    by_run None e false l = let t = searching s x e l in
        told Searching t.1 (searched_with s x p packets ended (now s None e) t.0 h)
    by_run None e true l = let t = began s x e l in
        told Began t.1 (begun_with s x packets ended (now s None e) t.0 h)
    by_run (Some run) e b l = by_due (cases_eq (length run % 313) 0) b l
      where
        at : p ≡ next_place run
        at = subst (λ o. IfSome o (λ run. p ≡ next_place run)) e place

        by_due : (length run % 313 ≡ 0) ⊎ (length run % 313 ≢ 0) → (b : Bool) → looks_like x ≡ b
            → Steps s x p packets (tracking s x)
        by_due (inr d) b l = let t = data_came s x run e d in
            told Data t.1 (on_with s x p packets ended run (now s (Some run) e) (some_segment s run e) t.0 at h)
        by_due (inl d) true l = let t = sync_came s x run e d l in
            told Sync t.1 (on_with s x p packets ended run (now s (Some run) e) (some_segment s run e) t.0 at h)
        by_due (inl d) false l = let t = ended_there s x run e d l in
            told Ended t.1 (ended_with s x p packets ended run (now s (Some run) e) t.0 at h)

-- ---- the end of a list

pub at_end : (s : List (List ℤ)) (p : ℕ) (packets : List Received)
    → IfSome (tracked s).run (λ run. p ≡ next_place run)
    → all_packets s ≡ packets_so_far s ++ packets → Ends s p packets
at_end s p packets place h = by_run (tracked s).run refl
  where
    ended : List (List (List ℤ))
    ended = (tracked s).ended

    by_run : (o : Option (List (List ℤ))) → (tracked s).run ≡ o → Ends s p packets
    by_run None e =
        let o : Tracked = record { ended = ended; run = None } in
        let none : packets ≡ [] =
        nothing_more (packets_so_far s) packets (grind (arith, packets_none, append-nil, all_is, now)) in
        let nothing : restored p packets ≡ [] = ap (restored p) none ∙ restored_none p in
        record {
          behind = grind (arith, all_restored_is, restored_is, now, append-nil, nothing);
          lives = grind (arith, all_lives_are, lives_is, now, append-nil, longer_none, nothing);
          none = λ _. none;
        }
    by_run (Some run) e =
        let o : Tracked = record { ended = ended; run = Some run } in
        let is : run_restored run ≡ early_restored run ++ restored p packets =
        whole_run s p packets ended run (now s (Some run) e)
        (subst (λ o. IfSome o (λ run. p ≡ next_place run)) e place)
        (sym (all_is s o (now s (Some run) e)) ∙ h) in
        record {
          behind = all_restored_is s o (now s (Some run) e)
              ∙ whole_restored s p packets ended run (now s (Some run) e) is;
          lives = all_lives_are s o (now s (Some run) e)
              ∙ whole_lives s p packets ended run (now s (Some run) e) is;
          none = not_none s ended run packets (now s (Some run) e);
        }
