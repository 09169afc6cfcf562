-- What is received of the first segments of a list, and of two lists one behind the other.
use Rattle.std.proofs.Common.{◌≡◌, ◌≢◌, ℕ, ℤ, ◌+◌, ◌%◌, ◌<◌, ◌≤◌, ◌⊎◌, Bool, true, false, cond, Option, Some, None, All}
use Rattle.std.proofs.Common.{List, [], ◌∷◌, ◌++◌, length, map, take, drop, refl, sym, ap, ap₂, ◌∙◌, inl, inr}
use Rattle.std.proofs.Common.{append_assoc, arith}
use Rattle.std.specs.Prelude.{option_to_list, fold}
use Rattle.std.specs.List.{flat_map}
use Rattle.std.proofs.lemmas.Bool.{cases_eq}
use Rattle.std.proofs.lemmas.List.{append-nil, map-append, take-append-drop, nil_from_length}
use Rattle.std.proofs.lemmas.List.Sums.{fold-append}
use Rattle.std.proofs.lemmas.List.Elements.{All-nil, All-cons}
use Rattle.std.proofs.lemmas.Grind.{flat_map-append}
use Rattle.dtx_frame.specs.Detection.{looks_like}
use Rattle.dtx_receiver.specs.declared.batch.Received.{Received}
use Rattle.dtx_receiver.specs.Runs.{Tracked, followed, sync_due, tracked, runs}
use Rattle.dtx_receiver.specs.Bytes.{bytes_in}
use Rattle.dtx_receiver.specs.Intervals.{NoneLooks, AreRuns}
use Rattle.dtx_receiver.specs.Packets.{run_packets, all_packets, received}
use Rattle.dtx_receiver.proofs.CountingLemmas.{More, whole_more}
use Rattle.dtx_receiver.proofs.FollowingLemmas.{searching, began, sync_came, ended_there, data_came}
use Rattle.dtx_receiver.proofs.IntervalsLemmas.{no_runs, none_on, some_segment}

-- ---- cut

packets_in : List (List (List ℤ)) → List Received
packets_in rs = flat_map (λ run. run_packets (bytes_in run)) rs

abbrev packets_with : List (List (List ℤ)) → Option (List (List ℤ)) → List Received
packets_with ended o = packets_in (ended ++ option_to_list o)

all_is : (s : List (List ℤ)) (t : Tracked) → tracked s ≡ t → all_packets s ≡ packets_with t.ended t.run
unfolding all_packets runs packets_in
all_is s t e = ap (λ (u : Tracked). packets_in (u.ended ++ option_to_list u.run)) e

all_now : (s : List (List ℤ)) (o : Option (List (List ℤ))) → (tracked s).run ≡ o
    → all_packets s ≡ packets_with (tracked s).ended o
all_now s o e = all_is s (tracked s) refl ∙ ap (packets_with (tracked s).ended) e

-- one run more behind those that have ended
last_run : (ended : List (List (List ℤ))) (run : List (List ℤ))
    → packets_with ended (Some run) ≡ packets_with ended None ++ run_packets (bytes_in run)
unfolding packets_in
last_run ended run = grind (arith, flat_map-append, append-nil)

-- a run that has become longer
longer : (ended : List (List (List ℤ))) (run new : List (List ℤ))
    → More (run_packets (bytes_in new)) (run_packets (bytes_in run))
    → More (packets_with ended (Some new)) (packets_with ended (Some run))
longer ended run new m = (
  m.0,
  last_run ended new ∙ ap (λ xs. packets_with ended None ++ xs) m.1
      ∙ sym (append_assoc (packets_with ended None) (run_packets (bytes_in run)) m.0)
      ∙ ap (λ xs. xs ++ m.0) (sym (last_run ended run)),
)

both : (s : List (List ℤ)) (x : List ℤ) (o : Option (List (List ℤ))) (t : Tracked) → (tracked s).run ≡ o
    → tracked (s ++ x ∷ []) ≡ t → More (packets_with t.ended t.run) (packets_with (tracked s).ended o)
    → More (all_packets (s ++ x ∷ [])) (all_packets s)
both s x o t e f m = (m.0, all_is (s ++ x ∷ []) t f ∙ m.1 ∙ ap (λ xs. xs ++ m.0) (sym (all_now s o e)))

same : (xs : List Received) → More xs xs
same xs = ([], sym (append-nil xs))

-- with one segment more
one_more : (s : List (List ℤ)) (x : List ℤ) → More (all_packets (s ++ x ∷ [])) (all_packets s)
one_more s x = by_run (tracked s).run refl (looks_like x) refl
  where
    ended : List (List (List ℤ))
    ended = (tracked s).ended

    by_run : (o : Option (List (List ℤ))) → (tracked s).run ≡ o → (b : Bool) → looks_like x ≡ b
        → More (all_packets (s ++ x ∷ [])) (all_packets s)
    by_run None e false l = both s x None _ e (searching s x e l).0 (same (packets_with ended None))
    by_run None e true l =
        both s x None _ e (began s x e l).0 (run_packets (bytes_in (x ∷ [])), last_run ended (x ∷ []))
    by_run (Some run) e b l = by_due (cases_eq (length run % 313) 0) b l
      where
        by_due : (length run % 313 ≡ 0) ⊎ (length run % 313 ≢ 0) → (b : Bool) → looks_like x ≡ b
            → More (all_packets (s ++ x ∷ [])) (all_packets s)
        by_due (inr d) b l = both s x (Some run) _ e (data_came s x run e d).0
            (longer ended run (run ++ x ∷ []) (whole_more run x (some_segment s run e)))
        by_due (inl d) true l = both s x (Some run) _ e (sync_came s x run e d l).0
            (longer ended run (run ++ x ∷ []) (whole_more run x (some_segment s run e)))
        by_due (inl d) false l = both s x (Some run) _ e (ended_there s x run e d l).0 (
          [],
          ap packets_in (append-nil (ended ++ run ∷ []))
              ∙ sym (append-nil (packets_with ended (Some run))),
        )

-- with any segments more
pub more_packets : (s more : List (List ℤ)) → More (all_packets (s ++ more)) (all_packets s)
more_packets s [] = ([], ap all_packets (append-nil s) ∙ sym (append-nil (all_packets s)))
more_packets s (x ∷ more) =
    let first = one_more s x in
    let rest = more_packets (s ++ x ∷ []) more in (
      first.0 ++ rest.0,
      ap all_packets (sym (append_assoc s (x ∷ []) more)) ∙ rest.1 ∙ ap (λ z. z ++ rest.0) first.1
          ∙ append_assoc (all_packets s) first.0 rest.0,
    )

bytes_more : (a b : List Received) → map (λ (r : Received). r.packet.0) (a ++ b)
    ≡ map (λ (r : Received). r.packet.0) a ++ map (λ (r : Received). r.packet.0) b
bytes_more a b = map-append (λ (r : Received). r.packet.0) a b

pub more_received : (s more : List (List ℤ)) → (rest : List (List ℕ)) × (received (s ++ more) ≡ received s ++ rest)
unfolding received
more_received s more =
    let m = more_packets s more in (
      map (λ (r : Received). r.packet.0) m.0,
      ap (map (λ (r : Received). r.packet.0)) m.1
          ∙ bytes_more (all_packets s) m.0,
    )

-- the packets of the first n segments are the first packets
pub cut_packets : (s : List (List ℤ)) (n : ℕ) → More (all_packets s) (all_packets (take n s))
cut_packets s n =
    let m = more_packets (take n s) (drop n s) in
    (m.0, ap all_packets (sym (take-append-drop n s)) ∙ m.1)

pub cut_received : (s : List (List ℤ)) (n : ℕ) → (rest : List (List ℕ)) × (received s ≡ received (take n s) ++ rest)
cut_received s n =
    let m = more_received (take n s) (drop n s) in
    (m.0, ap received (sym (take-append-drop n s)) ∙ m.1)

-- ---- splice

-- the search behind runs that have ended finds what it finds without them
abbrev behind : List (List (List ℤ)) → Tracked → Tracked
behind ended t = record { ended = ended ++ t.ended; run = t.run }

step_behind : (ended es : List (List (List ℤ))) (o : Option (List (List ℤ))) (x : List ℤ)
    → followed (ended ++ es) o x ≡ behind ended (followed es o x)
unfolding sync_due
step_behind ended es None x = refl
step_behind ended es (Some run) x = by_tests (sync_due run) (looks_like x)
  where
    by_tests : (d l : Bool) → cond d (cond l (record { ended = ended ++ es; run = Some (run ++ x ∷ []) })
        (record { ended = (ended ++ es) ++ run ∷ []; run = None }))
        (record { ended = ended ++ es; run = Some (run ++ x ∷ []) })
        ≡ behind ended (cond d (cond l (record { ended = es; run = Some (run ++ x ∷ []) })
        (record { ended = es ++ run ∷ []; run = None })) (record { ended = es; run = Some (run ++ x ∷ []) }))
    by_tests true true = refl
    by_tests true false = ap (λ rs. record { ended = rs; run = None }) (append_assoc ended es (run ∷ []))
    by_tests false l = refl

abbrev track : Tracked → List (List ℤ) → Tracked
track t segments = fold (λ t x. followed t.ended t.run x) t segments

track_behind : (ended : List (List (List ℤ))) (t : Tracked) (more : List (List ℤ))
    → track (behind ended t) more ≡ behind ended (track t more)
track_behind ended t [] = refl
track_behind ended t (x ∷ more) = ap (λ (u : Tracked). track u more) (step_behind ended t.ended t.run x)
    ∙ track_behind ended (followed t.ended t.run x) more

-- where no run is on behind a list, the runs of a longer one are its runs, and then those of what comes
tracked_behind : (s more : List (List ℤ)) → (tracked s).run ≡ None
    → tracked (s ++ more) ≡ behind (tracked s).ended (tracked more)
unfolding tracked
tracked_behind s more e =
    fold-append (λ (t : Tracked) (x : List ℤ). followed t.ended t.run x) (record { ended = []; run = None }) s more
    ∙ ap₂ (λ (rs : List (List (List ℤ))) (o : Option (List (List ℤ))). track (record { ended = rs; run = o }) more)
    (sym (append-nil (tracked s).ended)) e
    ∙ track_behind (tracked s).ended (record { ended = []; run = None }) more

runs_behind : (s more : List (List ℤ)) → (tracked s).run ≡ None → runs (s ++ more) ≡ runs s ++ runs more
unfolding runs
runs_behind s more e = simp (tracked_behind, append_assoc, e, append-nil)

pub spliced_runs : (s more : List (List ℤ)) (places : List (ℕ × ℕ)) → AreRuns s 0 places
    → All (λ p. p.0 + p.1 < length s) places → runs (s ++ more) ≡ runs s ++ runs more
spliced_runs s more places a b = runs_behind s more (none_on s places a b)

pub spliced_packets : (s more : List (List ℤ)) (places : List (ℕ × ℕ)) → AreRuns s 0 places
    → All (λ p. p.0 + p.1 < length s) places → all_packets (s ++ more) ≡ all_packets s ++ all_packets more
unfolding all_packets
spliced_packets s more places a b = grind (arith, spliced_runs, flat_map-append)

pub spliced_received : (s more : List (List ℤ)) (places : List (ℕ × ℕ)) → AreRuns s 0 places
    → All (λ p. p.0 + p.1 < length s) places → received (s ++ more) ≡ received s ++ received more
unfolding received
spliced_received s more places a b = grind (arith, spliced_packets, bytes_more)

-- where there is no run, or the last one has ended, none is on

runs_up : (s : List (List ℤ)) (from : ℕ) (places : List (ℕ × ℕ)) (p : ℕ × ℕ) → AreRuns s from (places ++ p ∷ [])
    → from ≤ p.0
runs_up s from [] p a = a.0
runs_up s from (q ∷ qs) p a = omega (arith, a.0, runs_up s (q.0 + q.1 + 1) qs p a.3)

all_ended : (s : List (List ℤ)) (from : ℕ) (places : List (ℕ × ℕ)) (p : ℕ × ℕ) → AreRuns s from (places ++ p ∷ [])
    → p.0 + p.1 < length s → All (λ q. q.0 + q.1 < length s) (places ++ p ∷ [])
all_ended s from [] p a l = All-cons (λ q. q.0 + q.1 < length s) p [] l (All-nil (λ q. q.0 + q.1 < length s))
all_ended s from (q ∷ qs) p a l = All-cons (λ r. r.0 + r.1 < length s) q (qs ++ p ∷ []) (grind (arith, runs_up))
    (all_ended s (q.0 + q.1 + 1) qs p a.3 l)

pub behind_ended : (s more : List (List ℤ)) (places : List (ℕ × ℕ)) (place n : ℕ)
    → AreRuns s 0 (places ++ (place, n) ∷ []) → place + n < length s
    → received (s ++ more) ≡ received s ++ received more
behind_ended s more places place n a l = grind (arith, spliced_received, all_ended)

no_packets : (s : List (List ℤ)) → NoneLooks s 0 (length s) → received s ≡ []
unfolding received all_packets
no_packets s none = ap (λ rs. map (λ (r : Received). r.packet.0) (flat_map (λ run. run_packets (bytes_in run)) rs))
    (nil_from_length (runs s) ((no_runs s).1 none))

pub behind_none : (s more : List (List ℤ)) → NoneLooks s 0 (length s) → received (s ++ more) ≡ received more
behind_none s more none = rw (spliced_received s more [] none (All-nil (λ p. p.0 + p.1 < length s)), no_packets s none)
