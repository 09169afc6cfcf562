-- Runs and packets with one segment more, and at the end of a list.
use Rattle.std.proofs.Common.{◌≡◌, ◌≢◌, ℕ, ℤ, ◌+◌, ◌*◌, ◌/◌, ◌%◌, ◌<◌, ◌⊎◌, Bool, true, false, Option, Some, None, List}
use Rattle.std.proofs.Common.{[], ◌∷◌, ◌++◌, length, take, drop, refl, sym, ap, ap₂, ◌∙◌, append_assoc, inl, inr, arith}
use Rattle.std.specs.Prelude.{option_to_list}
use Rattle.std.proofs.lemmas.Bool.{cases_eq}
use Rattle.std.proofs.lemmas.List.{length-append, append-nil, length-take-le, length-drop, take-append-drop}
use Rattle.std.proofs.lemmas.List.FromFn.{length-map-range_with_len}
use Rattle.dtx_frame.specs.Detection.{looks_like}
use Rattle.dtx_trellis.specs.Trellis.{group_place}
use Rattle.dtx_slice.specs.Unrolled.{level_groups, bytes_back, precoder_bits_after}
use Rattle.dtx_slice.proofs.JoinsLemmas.{bytes_append}
use Rattle.dtx_receiver.specs.declared.batch.Received.{Received}
use Rattle.dtx_receiver.specs.declared.tracking.Tracking.{Tracking}
use Rattle.dtx_receiver.specs.declared.tracking.Tracking.TheVariants.{Sync, Data, Ended}
use Rattle.dtx_receiver.specs.Runs.{Tracked, tracked, runs, tracking, begun}
use Rattle.dtx_receiver.specs.Bytes.{data_count, first_bits, levels_in, bytes_in}
use Rattle.dtx_receiver.specs.Packets.{run_packets, early_of, all_packets, packets_so_far}
use Rattle.dtx_receiver.specs.Receiver.{AreGiven}
use Rattle.dtx_receiver.proofs.EarlyLemmas.{early_more, end_more, packets_more}
use Rattle.dtx_receiver.proofs.SegmentsLemmas.{still_data, still_sync, levels_grown, first_stays}
use Rattle.dtx_receiver.proofs.FollowingLemmas.{searching, began, sync_came, ended_there, data_came}
use Rattle.dtx_receiver.proofs.GivenLemmas.{Packets, received_given, given_on, given_end, given_none, given_first}
use Rattle.dtx_receiver.proofs.GivenLemmas.{all_run, all_none}
use Rattle.dtx_receiver.proofs.IntervalsLemmas.{some_segment}

-- ---- how many runs

pub no_segments : runs [] ≡ []
unfolding runs tracked
no_segments = refl

pub nothing_given : packets_so_far [] ≡ []
unfolding packets_so_far tracked
nothing_given = refl

runs_by : (s : List (List ℤ)) (t : Tracked) → tracked s ≡ t
    → length (runs s) ≡ length t.ended + length (option_to_list t.run)
unfolding runs
runs_by s t e = grind (arith, length-append)

runs_now : (s : List (List ℤ)) (o : Option (List (List ℤ))) → (tracked s).run ≡ o
    → length (runs s) ≡ length (tracked s).ended + length (option_to_list o)
runs_now s o e = grind (arith, runs_by)

told_runs : (s : List (List ℤ)) (x : List ℤ) (t : Tracking) → t ≡ tracking s x
    → length (runs (s ++ x ∷ [])) ≡ length (runs s) + begun t
    → length (runs (s ++ x ∷ [])) ≡ length (runs s) + begun (tracking s x)
told_runs s x t e h = h ∙ ap (λ (u : Tracking). length (runs s) + begun u) e

pub runs_more : (s : List (List ℤ)) (x : List ℤ) → length (runs (s ++ x ∷ [])) ≡ length (runs s) + begun (tracking s x)
runs_more s x = by_run (tracked s).run refl (looks_like x) refl
  where
    ended : ℕ
    ended = length (tracked s).ended

    by_run : (o : Option (List (List ℤ))) → (tracked s).run ≡ o → (b : Bool) → looks_like x ≡ b
        → length (runs (s ++ x ∷ [])) ≡ length (runs s) + begun (tracking s x)
    by_run None e false l = grind (arith, searching, told_runs, runs_by, runs_now)
    by_run None e true l = grind (arith, began, told_runs, runs_by, runs_now)
    by_run (Some run) e b l = by_due (cases_eq (length run % 313) 0) b l
      where
        now : length (runs s) ≡ ended + 1
        now = runs_now s (Some run) e

        by_due : (length run % 313 ≡ 0) ⊎ (length run % 313 ≢ 0) → (b : Bool) → looks_like x ≡ b
            → length (runs (s ++ x ∷ [])) ≡ length (runs s) + begun (tracking s x)
        by_due (inr d) b l = let t = data_came s x run e d in
            told_runs s x Data t.1 (runs_by (s ++ x ∷ []) _ t.0 ∙ omega (arith, now))
        by_due (inl d) true l = let t = sync_came s x run e d l in
            told_runs s x Sync t.1 (runs_by (s ++ x ∷ []) _ t.0 ∙ omega (arith, now))
        by_due (inl d) false l = let t = ended_there s x run e d l in
            told_runs s x Ended t.1 (runs_by (s ++ x ∷ []) _ t.0
            ∙ omega (arith, now, length-append (tracked s).ended (run ∷ [])))

-- ---- what is given

-- the bytes of levels are those of their whole groups
long_back : (s : ℕ) (f levels : List ℕ) → length (bytes_back s f levels) ≡ 207 * (4 * level_groups levels)
unfolding bytes_back
long_back s f levels = grind (arith, length-map-range_with_len)

none_back : (s : ℕ) (f levels : List ℕ) → length levels < 3312 → bytes_back s f levels ≡ []
unfolding bytes_back level_groups
none_back s f levels l = grind arith

-- with levels more there may be bytes more
bytes_front : (f y z : List ℕ) → (more : List ℕ) × (h : ℕ) × (length more ≡ 207 * (4 * h))
    × (bytes_back 0 f (y ++ z) ≡ bytes_back 0 f y ++ more)
bytes_front f y z =
    let u : ℕ = length y / 3312 in
    let front : List ℕ = take (3312 * (length y / 3312)) y in
    let rest : List ℕ = drop (3312 * (length y / 3312)) y in
    let new : List ℕ = precoder_bits_after 0 f front in
    let parts : front ++ rest ≡ y = take-append-drop (3312 * u) y in
    let long : length front ≡ 3312 * u = length-take-le (3312 * u) y (omega arith) in
    let there : bytes_back 0 f (y ++ z) ≡ bytes_back 0 f y ++ bytes_back (group_place 0 u) new (rest ++ z) =
    ap (λ xs. bytes_back 0 f (xs ++ z)) (sym parts) ∙ ap (bytes_back 0 f) (append_assoc front rest z)
    ∙ bytes_append 0 u f front (rest ++ z) long ∙ ap (λ xs. xs ++ bytes_back (group_place 0 u) new (rest ++ z))
    (sym (ap (bytes_back 0 f) (sym parts) ∙ bytes_append 0 u f front rest long ∙ ap (λ xs. bytes_back 0 f front ++ xs)
    (none_back (group_place 0 u) new rest (omega (arith, length-drop (3312 * u) y)))
    ∙ append-nil (bytes_back 0 f front))) in (
      bytes_back (group_place 0 u) new (rest ++ z),
      level_groups (rest ++ z),
      long_back (group_place 0 u) new (rest ++ z),
      there,
    )

pub bytes_count : (run : List (List ℤ)) → length (bytes_in run) ≡ 207 * (4 * level_groups (levels_in run))
unfolding bytes_in
bytes_count run = long_back 0 (first_bits run) (levels_in run)

abbrev pub More : List Received → List Received → Type 0
More after before = (brought : List Received) × (after ≡ before ++ brought)

-- h groups more
abbrev pub Behind : List ℕ → List ℕ → Type 0
Behind after before = (more : List ℕ) × (h : ℕ) × (length more ≡ 207 * (4 * h)) × (after ≡ before ++ more)

grown : (run new : List (List ℤ)) (z : List ℕ) → first_bits new ≡ first_bits run → levels_in new ≡ levels_in run ++ z
    → Behind (bytes_in new) (bytes_in run)
unfolding bytes_in
grown run new z e f =
    let b = bytes_front (first_bits run) (levels_in run) z in
    (b.0, b.1, b.2, ap₂ (λ g y. bytes_back 0 g y) e f ∙ b.3)

-- with a segment more there may be bytes more
pub bytes_on : (run : List (List ℤ)) (x : List ℤ) → 0 < length run → Behind (bytes_in (run ++ x ∷ [])) (bytes_in run)
bytes_on run x some = by_place (cases_eq (length run % 313) 0) (cases_eq (data_count run % 4) 3)
  where
    same : bytes_in (run ++ x ∷ []) ≡ bytes_in run → Behind (bytes_in (run ++ x ∷ [])) (bytes_in run)
    same e = ([], 0, refl, e ∙ sym (append-nil (bytes_in run)))

    by_place : (length run % 313 ≡ 0) ⊎ (length run % 313 ≢ 0) → (data_count run % 4 ≡ 3) ⊎ (data_count run % 4 ≢ 3)
        → Behind (bytes_in (run ++ x ∷ [])) (bytes_in run)
    by_place (inl d) p = same (still_sync run x some d).bytes
    by_place (inr n) (inl p) = grown run (run ++ x ∷ []) _ (first_stays run x some) (levels_grown run x n p)
    by_place (inr n) (inr p) = same (still_data run x n p).bytes

-- ---- whichever packets a run gives

-- what a run gives with one segment more, and with its end, comes behind what it gave before
pub record Grows (whole early : Packets) : Type 0 where
  pub on : (run : List (List ℤ)) (x : List ℤ) → 0 < length run → More (early (run ++ x ∷ [])) (early run)
  pub end : (run : List (List ℤ)) → More (whole run) (early run)

-- and so does what is given of a list
pub list_grows : {whole early given all : Packets} → AreGiven whole early given all → Grows whole early
    → (s : List (List ℤ)) (x : List ℤ) → More (given (s ++ x ∷ [])) (given s)
list_grows {whole} {early} {given} is more s x = by_run (tracked s).run refl (looks_like x) refl
  where
    by_run : (o : Option (List (List ℤ))) → (tracked s).run ≡ o → (b : Bool) → looks_like x ≡ b
        → More (given (s ++ x ∷ [])) (given s)
    by_run None e false l = ([], given_none is s x e (searching s x e l).0)
    by_run None e true l = ([], given_first is s x e (began s x e l).0)
    by_run (Some run) e b l = by_due (cases_eq (length run % 313) 0) b l
      where
        m : More (early (run ++ x ∷ [])) (early run)
        m = more.on run x (some_segment s run e)

        by_due : (length run % 313 ≡ 0) ⊎ (length run % 313 ≢ 0) → (b : Bool) → looks_like x ≡ b
            → More (given (s ++ x ∷ [])) (given s)
        by_due (inr d) b l = (m.0, given_on is s x run (run ++ x ∷ []) m.0 e (data_came s x run e d).0 m.1)
        by_due (inl d) true l = (m.0, given_on is s x run (run ++ x ∷ []) m.0 e (sync_came s x run e d l).0 m.1)
        by_due (inl d) false l =
            let r = more.end run in (r.0, given_end is s x run r.0 e (ended_there s x run e d l).0 r.1)

pub list_ends : {whole early given all : Packets} → AreGiven whole early given all → Grows whole early
    → (s : List (List ℤ)) → More (all s) (given s)
list_ends {whole} {early} {given} {all} is more s = by_run (tracked s).run refl
  where
    by_run : (o : Option (List (List ℤ))) → (tracked s).run ≡ o → More (all s) (given s)
    by_run None e = ([], all_none is s e)
    by_run (Some run) e = let r = more.end run in (r.0, all_run is s run r.0 e r.1)

-- ---- where each word is corrected

-- how many data segments stand in whole groups
abbrev in_groups : List (List ℤ) → ℕ
in_groups run = 4 * level_groups (levels_in run)

-- the packets of a run with one segment more
pub whole_more : (run : List (List ℤ)) (x : List ℤ) → 0 < length run
    → More (run_packets (bytes_in (run ++ x ∷ []))) (run_packets (bytes_in run))
whole_more run x some =
    let b = bytes_on run x some in
    let m = packets_more (bytes_in run) b.0 (in_groups run) (4 * b.1) (bytes_count run) b.2 in
    (m.0, ap run_packets b.3 ∙ m.1)

growing : Grows (λ run. run_packets (bytes_in run)) (λ run. early_of (bytes_in run))
growing = record {
  on = λ run x some. let b = bytes_on run x some in
      (_, ap early_of b.3 ∙ early_more (bytes_in run) b.0 (in_groups run) (4 * b.1) (bytes_count run) b.2);
  end = λ run. (_, end_more (bytes_in run) (in_groups run) (bytes_count run));
}

pub given_more : (s : List (List ℤ)) (x : List ℤ) → More (packets_so_far (s ++ x ∷ [])) (packets_so_far s)
given_more s x = list_grows received_given growing s x

pub all_more : (s : List (List ℤ)) → More (all_packets s) (packets_so_far s)
all_more s = list_ends received_given growing s
