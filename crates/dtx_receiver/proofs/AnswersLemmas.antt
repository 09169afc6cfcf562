-- The five answers of what receives segments, whatever decodes a run, each with what is held and given.
use Rattle.std.proofs.Common.{◌≡◌, ◌≢◌, ℕ, ℤ, ◌+◌, ◌%◌, ◌<◌, ◌≤◌, true, false, Option, Some, None, List, [], ◌∷◌, ◌++◌}
use Rattle.std.proofs.Common.{length, refl, sym, ap, ◌∙◌, subst, arith, option_map, IfSome}
use Rattle.std.specs.Option.{is_some, unwrap_or}
use Rattle.std.proofs.lemmas.Bool.{true≢false}
use Rattle.std.proofs.lemmas.List.{length-append, length_push}
use Rattle.dtx_frame.specs.Detection.{looks_like}
use Rattle.dtx_receiver.specs.declared.batch.Received.{Received}
use Rattle.dtx_receiver.specs.declared.tracking.Tracking.TheVariants.{Searching, Began, Sync, Data, Ended}
use Rattle.dtx_receiver.specs.Runs.{Tracked, tracked, runs}
use Rattle.dtx_receiver.specs.Receiver.{AreReceived, HasRun, IsDecoder, IsFollowed, Kept, Stands}
use Rattle.dtx_receiver.proofs.FollowingLemmas.{searching, began, sync_came, ended_there, data_came, data_all}
use Rattle.dtx_receiver.proofs.GivenLemmas.{Packets, given_on, given_end, given_none, given_first, given_further}
use Rattle.dtx_receiver.proofs.GivenLemmas.{all_run, all_none}

-- ---- what a receiver is seen as

pub seen : {D : Type 0} {Holds : D → List (List ℤ) → Type 0} {k l : Kept D} {s : List (List ℤ)} → k ≡ l
    → Stands Holds l s → Stands Holds k s
seen {D} {Holds} {k} {l} {s} e h = subst (λ (r : Kept D). Stands Holds r s) (sym e) h

pub place_seen : {D : Type 0} {k l : Kept D} {p : Option ℕ} → k ≡ l → k.place ≡ p → l.place ≡ p
place_seen {D} e f = ap (λ (r : Kept D). r.place) (sym e) ∙ f

-- ---- the run that is on

none_on : {D : Type 0} (Holds : D → List (List ℤ) → Type 0) (p : Option ℕ) (d : D) (s : List (List ℤ))
    → HasRun Holds p d s → p ≡ None → (tracked s).run ≡ None
none_on Holds p d s h e = grind (arith, true≢false)

record On {D : Type 0} (Holds : D → List (List ℤ) → Type 0) (d : D) (s : List (List ℤ)) (place : ℕ) : Type 0 where
  run : List (List ℤ)
  is : (tracked s).run ≡ Some run
  place_is : length run % 313 ≡ place
  holds : Holds d run

some_on : {D : Type 0} (Holds : D → List (List ℤ) → Type 0) (p : Option ℕ) (d : D) (s : List (List ℤ)) (place : ℕ)
    → HasRun Holds p d s → p ≡ Some place → On Holds d s place
some_on {D} Holds p d s place h e = by_cases (tracked s).run refl h.run (sym h.place ∙ e)
  where
    by_cases : (o : Option (List (List ℤ))) → (tracked s).run ≡ o → IfSome o (λ run. Holds d run)
        → option_map (λ (run : List (List ℤ)). length run % 313) o ≡ Some place → On Holds d s place
    by_cases None i k e = absurd (true≢false (ap is_some (sym e)))
    by_cases (Some run) i k e = record {
      run = run;
      is = i;
      place_is = ap (λ (o : Option ℕ). unwrap_or o 0) e;
      holds = k;
    }

stands_none : {D : Type 0} (Holds : D → List (List ℤ) → Type 0) (p : Option ℕ) (d : D) (s : List (List ℤ))
    → (tracked s).run ≡ None → p ≡ None → HasRun Holds p d s
stands_none Holds p d s e f = grind arith

stands_some : {D : Type 0} (Holds : D → List (List ℤ) → Type 0) (p : Option ℕ) (d : D) (s : List (List ℤ))
    (run : List (List ℤ)) → (tracked s).run ≡ Some run → p ≡ Some (length run % 313) → Holds d run → HasRun Holds p d s
stands_some Holds p d s run e f h = grind arith

-- before the first segment
pub stands_new : {D : Type 0} (Holds : D → List (List ℤ) → Type 0) (p : Option ℕ) (d : D) → p ≡ None
    → HasRun Holds p d []
unfolding tracked
stands_new Holds p d e = stands_none Holds p d [] refl e

-- ---- the five answers

with_none : (given : Packets) (s : List (List ℤ)) (x : List ℤ) (brought : List Received) → brought ≡ []
    → given (s ++ x ∷ []) ≡ given s ++ [] → given (s ++ x ∷ []) ≡ given s ++ brought
with_none given s x brought b e = e ∙ ap (λ xs. given s ++ xs) (sym b)

pub step_searching : {D : Type 0} {Holds : D → List (List ℤ) → Type 0} {whole early given all : Packets}
    (w : IsDecoder Holds whole early given all) (s : List (List ℤ)) (x : List ℤ) (p : Option ℕ) (d : D)
    (brought : List Received) → HasRun Holds p d s → p ≡ None → looks_like x ≡ false → brought ≡ []
    → IsFollowed (HasRun Holds p d) given s x Searching brought
step_searching {D} {Holds} {whole} {early} {given} w s x p d brought h n l b =
    let e = none_on Holds p d s h n in
    let t = searching s x e l in
    record {
      told = t.1;
      stands = stands_none Holds p d (s ++ x ∷ []) (ap (λ (u : Tracked). u.run) t.0) n;
      packets = with_none given s x brought b (given_none w.packets s x e t.0);
    }

pub step_began : {D : Type 0} {Holds : D → List (List ℤ) → Type 0} {whole early given all : Packets}
    (w : IsDecoder Holds whole early given all) (s : List (List ℤ)) (x : List ℤ) (p q : Option ℕ) (d new : D)
    (brought : List Received) → HasRun Holds p d s → p ≡ None → looks_like x ≡ true → brought ≡ []
    → q ≡ Some 1 → Holds new (x ∷ []) → IsFollowed (HasRun Holds q new) given s x Began brought
step_began {D} {Holds} {whole} {early} {given} w s x p q d new brought h n l b f k =
    let e = none_on Holds p d s h n in
    let t = began s x e l in
    record {
      told = t.1;
      stands = stands_some Holds q new (s ++ x ∷ []) (x ∷ []) (ap (λ (u : Tracked). u.run) t.0) f k;
      packets = with_none given s x brought b (given_first w.packets s x e t.0);
    }

next_place : (run : List (List ℤ)) (x : List ℤ) (p : ℕ) → length run % 313 ≡ p
    → (p + 1) % 313 ≡ length (run ++ x ∷ []) % 313
next_place run x p e = grind (arith, length_push)

pub step_sync : {D : Type 0} {Holds : D → List (List ℤ) → Type 0} {whole early given all : Packets}
    (w : IsDecoder Holds whole early given all) (s : List (List ℤ)) (x : List ℤ) (p q : Option ℕ) (d : D)
    (brought : List Received) → HasRun Holds p d s → p ≡ Some 0 → looks_like x ≡ true → brought ≡ []
    → q ≡ Some 1 → IsFollowed (HasRun Holds q d) given s x Sync brought
step_sync {D} {Holds} {whole} {early} {given} w s x p q d brought h z l b f =
    let o : On Holds d s 0 = some_on Holds p d s 0 h z in
    let t = sync_came s x o.run o.is o.place_is l in
    record {
      told = t.1;
      stands = stands_some Holds q d (s ++ x ∷ []) (o.run ++ x ∷ []) (ap (λ (u : Tracked). u.run) t.0)
          (f ∙ ap Some (next_place o.run x 0 o.place_is)) (w.sync_held x d o.run o.holds o.place_is);
      packets = with_none given s x brought b (given_on w.packets s x o.run (o.run ++ x ∷ []) [] o.is t.0
          (w.sync_given x d o.run o.holds o.place_is));
    }

pub step_ended : {D : Type 0} {Holds : D → List (List ℤ) → Type 0} {whole early given all : Packets}
    (w : IsDecoder Holds whole early given all) (s : List (List ℤ)) (x : List ℤ) (p q : Option ℕ) (d new : D)
    (brought : List Received) → HasRun Holds p d s → p ≡ Some 0 → looks_like x ≡ false → q ≡ None
    → ((run : List (List ℤ)) → Holds d run → whole run ≡ early run ++ brought)
    → IsFollowed (HasRun Holds q new) given s x Ended brought
step_ended {D} {Holds} w s x p q d new brought h z l f k =
    let o : On Holds d s 0 = some_on Holds p d s 0 h z in
    let t = ended_there s x o.run o.is o.place_is l in
    record {
      told = t.1;
      stands = stands_none Holds q new (s ++ x ∷ []) (ap (λ (u : Tracked). u.run) t.0) f;
      packets = given_end w.packets s x o.run brought o.is t.0 (k o.run o.holds);
    }

-- data segments of a run, one behind the other, leave this, and bring these packets
pub record AreCarried {D : Type 0} (Holds : D → List (List ℤ) → Type 0) (early : List (List ℤ) → List Received)
    (xs : List (List ℤ)) (new : D) (run : List (List ℤ)) (brought : List Received) : Type 0 where
  pub holds : Holds new (run ++ xs)
  pub packets : early (run ++ xs) ≡ early run ++ brought

pub step_data : {D : Type 0} {Holds : D → List (List ℤ) → Type 0} {whole early given all : Packets}
    (w : IsDecoder Holds whole early given all) (s : List (List ℤ)) (x : List ℤ) (p q : Option ℕ) (d new : D)
    (place : ℕ) (brought : List Received) → HasRun Holds p d s → p ≡ Some place → place ≢ 0
    → q ≡ Some ((place + 1) % 313)
    → ((run : List (List ℤ)) → Holds d run → length run % 313 ≡ place → AreCarried Holds early (x ∷ []) new run brought)
    → IsFollowed (HasRun Holds q new) given s x Data brought
step_data {D} {Holds} {whole} {early} w s x p q d new place brought h e z f k =
    let o : On Holds d s place = some_on Holds p d s place h e in
    let t = data_came s x o.run o.is (λ i. z (sym o.place_is ∙ i)) in
    record {
      told = t.1;
      stands = stands_some Holds q new (s ++ x ∷ []) (o.run ++ x ∷ []) (ap (λ (u : Tracked). u.run) t.0)
          (f ∙ ap Some (next_place o.run x place o.place_is)) (k o.run o.holds o.place_is).holds;
      packets = given_on w.packets s x o.run (o.run ++ x ∷ []) brought o.is t.0 (k o.run o.holds o.place_is).packets;
    }

-- ---- the end of the list

pub finish_none : {D : Type 0} {Holds : D → List (List ℤ) → Type 0} {whole early given all : Packets}
    (w : IsDecoder Holds whole early given all) (s : List (List ℤ)) (p : Option ℕ) (d : D) (brought : List Received)
    → HasRun Holds p d s → p ≡ None → brought ≡ [] → all s ≡ given s ++ brought
finish_none {D} {Holds} {whole} {early} {given} w s p d brought h n b = grind (arith, all_none, none_on)

pub finish_some : {D : Type 0} {Holds : D → List (List ℤ) → Type 0} {whole early given all : Packets}
    (w : IsDecoder Holds whole early given all) (s : List (List ℤ)) (p : Option ℕ) (d : D) (place : ℕ)
    (brought : List Received) → HasRun Holds p d s → p ≡ Some place
    → ((run : List (List ℤ)) → Holds d run → whole run ≡ early run ++ brought) → all s ≡ given s ++ brought
finish_some {D} {Holds} w s p d place brought h e k = grind (arith, some_on, all_run)

-- ---- data segments, one behind the other

same_runs : (s more run new : List (List ℤ)) → (tracked s).run ≡ Some run
    → tracked more ≡ record { ended = (tracked s).ended; run = Some new } → length (runs more) ≡ length (runs s) + 0
unfolding runs
same_runs s more run new e f = grind (arith, length_push)

pub step_all : {D : Type 0} {Holds : D → List (List ℤ) → Type 0} {whole early given all : Packets}
    (w : IsDecoder Holds whole early given all) (s xs : List (List ℤ)) (p q : Option ℕ) (d new : D)
    (place : ℕ) (brought : List Received) → HasRun Holds p d s → p ≡ Some place → 0 < place
    → place + length xs ≤ 313 → q ≡ Some ((place + length xs) % 313)
    → ((run : List (List ℤ)) → Holds d run → length run % 313 ≡ place → AreCarried Holds early xs new run brought)
    → AreReceived (HasRun Holds q new) given s xs 0 brought
step_all {D} {Holds} {whole} {early} w s xs p q d new place brought h e z l f k =
    let o : On Holds d s place = some_on Holds p d s place h e in
    let t = data_all xs s o.run o.is (λ _ i. omega (arith, z, o.place_is, i)) (omega (arith, l, o.place_is)) in
    let c : AreCarried Holds early xs new o.run brought = k o.run o.holds o.place_is in
    record {
      stands = stands_some Holds q new (s ++ xs) (o.run ++ xs) (ap (λ (u : Tracked). u.run) t)
          (f ∙ ap Some (omega (arith, o.place_is)
          ∙ ap (λ n. n % 313) (sym (length-append o.run xs)))) c.holds;
      packets = given_further w.packets s (s ++ xs) o.run (o.run ++ xs) brought o.is t c.packets;
      runs = same_runs s (s ++ xs) o.run (o.run ++ xs) o.is t;
    }
