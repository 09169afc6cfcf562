-- Where the packets of a run stand among those of all runs, in any way from runs to packets.
use Rattle.std.proofs.Common.{◌≡◌, inl, inr, ℕ, ℤ, suc, ◌+◌, ◌<◌, Some, List, ◌∷◌, ◌++◌, length, map, get_or, sym, ap}
use Rattle.std.proofs.Common.{◌∙◌, arith}
use Rattle.std.specs.Prelude.{slice_get}
use Rattle.std.specs.List.{flat_map}
use Rattle.std.proofs.lemmas.Bool.{cases_lt}
use Rattle.std.proofs.lemmas.Grind.{flat_map-append}
use Rattle.std.proofs.lemmas.List.{length-append, get_or_past, get_or_append_left, get_or-append-add}
use Rattle.std.proofs.lemmas.List.Folds.{flat_map-map}
use Rattle.std.proofs.lemmas.Option.{slice_get-get_or}
use Rattle.dtx_receiver.specs.Intervals.{AreRuns, segments_in}
use Rattle.dtx_receiver.proofs.IntervalsLemmas.{are_runs, only_runs}
use Rattle.dtx_receiver.specs.Runs.{runs}
use Rattle.dtx_receiver.specs.declared.batch.Received.{Received}

-- what doesn't depend on the value behind the list's end stands in the list
within_if_read : (rs : List Received) (j : ℕ) (r : Received) → ((other : Received) → get_or rs j other ≡ r)
    → j < length rs
within_if_read rs j r h =
    let other : Received = record { packet = r.packet; fixed = suc r.fixed; good = r.good } in
    elim (cases_lt j (length rs)) [
      | inl l ↦ l
      | inr l ↦
          let e : suc r.fixed ≡ r.fixed = ap (λ (x : Received). x.fixed) (sym (get_or_past rs j other l) ∙ h other) in
          absurd (omega (arith, e))
    ]

-- an element of the middle one of three lists
pub middle_at : (before rs after : List Received) (j : ℕ) (r : Received) → ((other : Received) → get_or rs j other ≡ r)
    → slice_get (before ++ (rs ++ after)) (length before + j) ≡ Some r
middle_at before rs after j r h =
    let l : j < length rs = within_if_read rs j r h in
    slice_get-get_or (before ++ (rs ++ after)) (length before + j) r (grind (arith, length-append))
    ∙ ap Some (get_or-append-add before (rs ++ after) j r ∙ get_or_append_left rs after r j l ∙ h r)

-- the packets of all runs, where one of the runs is known
pub by_run : (packets : List (List ℤ) → List Received) (got : List (List ℤ)) (earlier later : List (ℕ × ℕ))
    (p : ℕ × ℕ) → AreRuns got 0 (earlier ++ p ∷ later)
    → flat_map packets (runs got) ≡ flat_map (λ q. packets (segments_in got q)) earlier
    ++ (packets (segments_in got p) ++ flat_map (λ q. packets (segments_in got q)) later)
by_run packets got earlier later p are = ap (flat_map packets) ((are_runs got).2
    ∙ ap (map (segments_in got)) (only_runs got 0 (are_runs got).0 (earlier ++ p ∷ later) (are_runs got).1 are))
    ∙ flat_map-map packets (segments_in got) (earlier ++ p ∷ later)
    ∙ flat_map-append (λ q. packets (segments_in got q)) earlier (p ∷ later)
