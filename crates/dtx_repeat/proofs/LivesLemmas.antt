-- The lives of an exciter that is fed by a repeater, by what the repeater gives.
use Rattle.std.proofs.Common.{◌≡◌, ℕ, ℤ, Option, Some, None, IfSome, List, [], ◌∷◌, ◌++◌, length, map, refl, sym, ap}
use Rattle.std.proofs.Common.{◌∙◌, arith, option_to_list, length-append}
use Rattle.std.proofs.lemmas.List.{append_cancel_left, length-map}
use Rattle.dtx_receiver.proofs.CountingLemmas.{given_more, all_more}
use Rattle.dtx_receiver.specs.Runs.{tracked, runs, tracking}
use Rattle.dtx_receiver.specs.declared.batch.Received.{Received}
use Rattle.dtx_receiver.specs.declared.tracking.Tracking.{Tracking}
use Rattle.dtx_receiver.specs.declared.tracking.Tracking.TheVariants.{Searching, Began, Sync, Data, Ended}
use Rattle.dtx_repeat.specs.GoingOn.{longer, with_begun, AreGiven}
use Rattle.dtx_repeat.proofs.GoingOnLemmas.{GoesOn, Ends, Steps, one_more, at_end, longer_none}
use Rattle.dtx_repeat.specs.Lives.{packets_in, life_of, lives, lives_so_far}
use Rattle.dtx_repeat.specs.Repeater.{next_place}
use Rattle.dtx_repeat.specs.Restored.{restored, all_restored, restored_so_far, early_restored}
use Rattle.dtx_repeat.proofs.RestoredLemmas.{restored_none}

abbrev pub place_by : Option (List (List ℤ)) → ℕ
place_by None = 0
place_by (Some run) = next_place run

pub at_place : (o : Option (List (List ℤ))) → IfSome o (λ run. place_by o ≡ next_place run)
at_place None = tt
at_place (Some run) = refl

-- with segments more, none of which begins a life
pub given_on : (s next : List (List ℤ)) (p : ℕ) (brought packets : List Received) → GoesOn s next p brought
    → restored_so_far next ≡ restored_so_far s ++ packets
    → AreGiven (lives_so_far s) (lives_so_far next) packets
given_on s next p brought packets g is =
    let e : packets ≡ restored p brought =
    append_cancel_left (restored_so_far s) packets (restored p brought) (sym is ∙ g.behind) in (
      g.lives ∙ ap (λ z. longer (lives_so_far s) (packets_in z)) (sym e),
      λ none. e ∙ ap (restored p) (g.none none) ∙ restored_none p,
    )

-- with one segment more, which may begin a life
given_by : (s : List (List ℤ)) (x : List ℤ) (p : ℕ) (packets brought : List Received) (t : Tracking)
    → Steps s x p brought t → restored_so_far (s ++ x ∷ []) ≡ restored_so_far s ++ packets
    → AreGiven (with_begun t (lives_so_far s)) (lives_so_far (s ++ x ∷ [])) packets
given_by s x p packets brought t steps is = by_told t steps
  where
    on : GoesOn s (s ++ x ∷ []) p brought → AreGiven (lives_so_far s) (lives_so_far (s ++ x ∷ [])) packets
    on g = given_on s (s ++ x ∷ []) p brought packets g is

    by_told : (t : Tracking) → Steps s x p brought t
        → AreGiven (with_begun t (lives_so_far s)) (lives_so_far (s ++ x ∷ [])) packets
    by_told Searching g = on g
    by_told Sync g = on g
    by_told Data g = on g
    by_told Ended g = on g
    by_told Began g =
        let e : packets ≡ [] =
        append_cancel_left (restored_so_far s) packets [] (sym is ∙ g.behind) in (
          g.lives ∙ sym (longer_none (lives_so_far s ++ [] ∷ []))
              ∙ ap (λ z. longer (lives_so_far s ++ [] ∷ []) (packets_in z)) (sym e),
          λ _. e,
        )

pub lives_more : (s : List (List ℤ)) (x : List ℤ) (packets : List Received)
    → restored_so_far (s ++ x ∷ []) ≡ restored_so_far s ++ packets
    → AreGiven (with_begun (tracking s x) (lives_so_far s)) (lives_so_far (s ++ x ∷ [])) packets
lives_more s x packets is =
    let more = given_more s x in
    let p : ℕ = place_by (tracked s).run in
    given_by s x p packets more.0 (tracking s x) (one_more s x p more.0 (at_place (tracked s).run) more.1) is

-- some packets are given with it
some_by : (s : List (List ℤ)) (x : List ℤ) (p : ℕ) (brought : List Received) (t : Tracking) → Steps s x p brought t
    → (packets : List Received) × (restored_so_far (s ++ x ∷ []) ≡ restored_so_far s ++ packets)
some_by s x p brought Searching g = (restored p brought, g.behind)
some_by s x p brought Sync g = (restored p brought, g.behind)
some_by s x p brought Data g = (restored p brought, g.behind)
some_by s x p brought Ended g = (restored p brought, g.behind)
some_by s x p brought Began g = ([], g.behind)

pub some_more : (s : List (List ℤ)) (x : List ℤ)
    → (packets : List Received) × (restored_so_far (s ++ x ∷ []) ≡ restored_so_far s ++ packets)
some_more s x =
    let more = given_more s x in
    let p : ℕ = place_by (tracked s).run in
    some_by s x p more.0 (tracking s x) (one_more s x p more.0 (at_place (tracked s).run) more.1)

pub some_last : (s : List (List ℤ)) → (packets : List Received) × (all_restored s ≡ restored_so_far s ++ packets)
some_last s =
    let more = all_more s in
    let p : ℕ = place_by (tracked s).run in
    (restored p more.0, (at_end s p more.0 (at_place (tracked s).run) more.1).behind)

-- at the end of the list
pub lives_end : (s : List (List ℤ)) (packets : List Received) → all_restored s ≡ restored_so_far s ++ packets
    → AreGiven (lives_so_far s) (lives s) packets
lives_end s packets is =
    let more = all_more s in
    let p : ℕ = place_by (tracked s).run in
    let end : Ends s p more.0 = at_end s p more.0 (at_place (tracked s).run) more.1 in
    let e : packets ≡ restored p more.0 =
    append_cancel_left (restored_so_far s) packets (restored p more.0) (sym is ∙ end.behind) in (
      end.lives ∙ ap (λ z. longer (lives_so_far s) (packets_in z)) (sym e),
      λ none. e ∙ ap (restored p) (end.none none) ∙ restored_none p,
    )

-- each run is one life
pub as_many : (s : List (List ℤ)) → length (lives s) ≡ length (runs s)
unfolding lives
as_many s = length-map (runs s) life_of

pub as_many_so_far : (s : List (List ℤ)) → length (lives_so_far s) ≡ length (runs s)
unfolding lives_so_far runs
as_many_so_far s =
    let ended : List (List (List ℤ)) = (tracked s).ended in
    let on : List (List (List ℤ)) = option_to_list (tracked s).run in
    omega (
      arith,
      length-append (map life_of ended) (map (λ run. packets_in (early_restored run)) on),
      length-append ended on,
      length-map ended life_of,
      length-map on (λ run. packets_in (early_restored run)),
    )

-- of no segments there is none
pub no_lives : lives_so_far [] ≡ []
unfolding lives_so_far tracked
no_lives = refl
