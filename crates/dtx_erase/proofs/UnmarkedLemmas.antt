-- Mended packets and received ones: as many, the same where no symbol is missing, and the codeword's where the word is
-- near enough to it.
use Rattle.std.proofs.Common.{◌≡◌, ℕ, ℤ, zero, suc, ◌+◌, ◌-◌, ◌*◌, ◌/◌, ◌%◌, ◌≤◌, ◌==◌, ◌||◌, Bool, true, false, cond}
use Rattle.std.proofs.Common.{Option, Some, None, IfSome, List, [], ◌∷◌, ◌++◌, map, length, drop, get_or, refl, sym, ap}
use Rattle.std.proofs.Common.{ap₂, fold, ◌∙◌, arith}
use Rattle.std.specs.Prelude.{option_to_list}
use Rattle.std.specs.List.{range_with_len, flat_map, filter, AllByRecursion}
use Rattle.std.proofs.lemmas.List.{length-append, length-map}
use Rattle.std.proofs.lemmas.List.FromFn.{length-map-range_with_len}
use Rattle.dtx_frame.specs.Detection.{looks_like}
use Rattle.dtx_laws.specs.Codeword.{IsCodeword, distance}
use Rattle.dtx_slice.specs.Unrolled.{symbol_place, coder_of}
use Rattle.dtx_outer.specs.Inner.{codeword_byte_place, word_at}
use Rattle.dtx_outer.proofs.WordsLemmas.{length-word}
use Rattle.dtx_receiver.specs.declared.batch.Received.{Received}
use Rattle.dtx_receiver.specs.Runs.{sync_due, Tracked, followed, tracked, runs}
use Rattle.dtx_receiver.specs.Bytes.{data_at, groups_of, bytes_in}
use Rattle.dtx_receiver.specs.Packets.{is_complete, packet_bytes, received_by, received_at, run_packets, early_of}
use Rattle.dtx_receiver.specs.Packets.{all_packets, packets_so_far, received}
use Rattle.dtx_erase.specs.Mending.{lost, unmarked_distance}
use Rattle.dtx_erase.proofs.MendingLemmas.{damage_is}
use Rattle.dtx_erase.specs.Marks.{is_missing, missing_in, was_missing, is_marked, marks_in, AreThere, AllThere}
use Rattle.dtx_erase.proofs.MarksLemmas.{as_long}
use Rattle.dtx_erase.specs.Mended.{marks_at, mended_at, mended_run_packets, mended_early, mended_run, mended_run_early}
use Rattle.dtx_erase.specs.Mended.{all_mended, mended_so_far, mended}
use Rattle.dtx_erase.proofs.ChosenLemmas.{mending_only, unmarked_mending}

pub length-marks : (marks : List Bool) (k : ℕ) → length (marks_at marks k) ≡ 207
unfolding marks_at
length-marks marks k = length-map-range_with_len (λ p. get_or marks (codeword_byte_place 52 4 p) false) (207 * k) 207

-- ---- near enough

pub mended_packet : (bytes : List ℕ) (marks : List Bool) (k : ℕ) (code : List ℕ) → IsCodeword 207 187 code
    → 2 * unmarked_distance (marks_at marks k) (word_at 207 52 4 bytes k) code + lost (marks_at marks k) ≤ 20
    → mended_at bytes marks k ≡ record {
      packet = record { 0 = packet_bytes (187 * (k % 312)) code };
      fixed = distance (word_at 207 52 4 bytes k) code;
      good = true;
    }
unfolding mended_at
mended_packet bytes marks k code c l = ap (received_by (187 * (k % 312)) (word_at 207 52 4 bytes k))
    (mending_only 207 187 (marks_at marks k) (word_at 207 52 4 bytes k) code (omega arith)
    (length-word 207 52 4 bytes k) (length-marks marks k)
    (damage_is 207 187 (marks_at marks k) code (word_at 207 52 4 bytes k) c l))

-- ---- as many

count_run : (run : List (List ℤ)) → length (mended_run run) ≡ length (run_packets (bytes_in run))
unfolding mended_run_packets run_packets
count_run run =
    length-map (filter (is_complete (length (bytes_in run))) (range_with_len 0 (length (bytes_in run) / 207)))
    (mended_at (bytes_in run) (marks_in run))
    ∙ sym (length-map (filter (is_complete (length (bytes_in run))) (range_with_len 0 (length (bytes_in run) / 207)))
    (received_at (bytes_in run)))

pub as_many : (segments : List (List ℤ)) → length (all_mended segments) ≡ length (all_packets segments)
unfolding all_mended all_packets
as_many segments = as_long mended_run (λ run. run_packets (bytes_in run)) (runs segments) count_run

count_early : (run : List (List ℤ)) → length (mended_run_early run) ≡ length (early_of (bytes_in run))
unfolding mended_early early_of
count_early run =
    length-map (range_with_len 0 (length (bytes_in run) / 207 - 52)) (mended_at (bytes_in run) (marks_in run))
    ∙ sym (length-map (range_with_len 0 (length (bytes_in run) / 207 - 52)) (received_at (bytes_in run)))

pub as_many_so_far : (segments : List (List ℤ)) → length (mended_so_far segments) ≡ length (packets_so_far segments)
unfolding mended_so_far packets_so_far
as_many_so_far segments =
    let ended : List (List (List ℤ)) = (tracked segments).ended in
    let on : List (List (List ℤ)) = option_to_list (tracked segments).run in
    length-append (flat_map mended_run ended) (flat_map mended_run_early on)
    ∙ ap₂ (λ (a b : ℕ). a + b) (as_long mended_run (λ run. run_packets (bytes_in run)) ended count_run)
    (as_long mended_run_early (λ run. early_of (bytes_in run)) on count_early)
    ∙ sym (length-append (flat_map (λ run. run_packets (bytes_in run)) ended)
    (flat_map (λ run. early_of (bytes_in run)) on))

-- ---- where no symbol is missing

all_both : {X : Type 0} (P : X → Type 0) (xs ys : List X) → AllByRecursion P xs → AllByRecursion P ys
    → AllByRecursion P (xs ++ ys)
all_both P [] ys h k = k
all_both P (x ∷ xs) ys h k = (h.0, all_both P xs ys h.1 k)

abbrev IsClear : Bool → Type 0
IsClear m = m ≡ false

none_map : (f : ℕ → Bool) (xs : List ℕ) → ((i : ℕ) → IsClear (f i)) → AllByRecursion IsClear (map f xs)
none_map f [] h = tt
none_map f (x ∷ xs) h = (h x, none_map f xs h)

abbrev AllFalse : List Bool → Type 0
AllFalse ms = AllByRecursion IsClear ms

none_at : (ms : List Bool) (i : ℕ) → AllFalse ms → get_or ms i false ≡ false
none_at [] i h = refl
none_at (m ∷ ms) zero h = h.0
none_at (m ∷ ms) (suc i) h = none_at ms i h.1

none_flat : (f : ℕ → List Bool) (xs : List ℕ) → ((i : ℕ) → AllFalse (f i)) → AllFalse (flat_map f xs)
none_flat f [] h = tt
none_flat f (x ∷ xs) h = all_both IsClear (f x) (flat_map f xs) (h x) (none_flat f xs h)

lost_none : (ms : List Bool) → AllFalse ms → lost ms ≡ 0
lost_none [] h = refl
lost_none (m ∷ ms) h = ap₂ (λ (b : Bool) (n : ℕ). cond b 1 0 + n) h.0 (lost_none ms h.1)

none_behind : (n : ℕ) (x : List ℤ) → AreThere x → AllFalse (map is_missing (drop n x))
none_behind zero [] h = tt
none_behind zero (z ∷ x) h = (h.0, none_behind zero x h.1)
none_behind (suc n) [] h = tt
none_behind (suc n) (z ∷ x) h = none_behind n x h.1

there_at : (run : List (List ℤ)) (i : ℕ) → AllThere run → AreThere (get_or run i [])
there_at [] i h = tt
there_at (x ∷ run) zero h = h.0
there_at (x ∷ run) (suc i) h = there_at run i h.1

none_data : (run : List (List ℤ)) (d : ℕ) → AllThere run → AllFalse (map is_missing (drop 4 (data_at run d)))
unfolding data_at
none_data run d h = none_behind 4 (get_or run (d + d / 312 + 1) []) (there_at run (d + d / 312 + 1) h)

none_in : (run : List (List ℤ)) → AllThere run → AllFalse (missing_in run)
unfolding missing_in
none_in run h = none_flat (λ d. map is_missing (drop 4 (data_at run d))) (range_with_len 0 (4 * groups_of run))
    (λ d. none_data run d h)

none_was : (run : List (List ℤ)) (r e : ℕ) → AllThere run → was_missing run r e ≡ false
unfolding was_missing
none_was run r e h = ap₂ (cond (r == 0))
    (none_at (map is_missing (drop 820 (get_or run 0 []))) ((e + 4) % 12) (none_behind 820 (get_or run 0 [])
    (there_at run 0 h))) (none_at (missing_in run) (symbol_place 0 (r - 1) e) (none_in run h)) ∙ same (r == 0)
  where
    same : (t : Bool) → cond t false false ≡ false
    same true = refl
    same false = refl

none_marked : (run : List (List ℤ)) (j : ℕ) → AllThere run → is_marked run j ≡ false
unfolding is_marked
none_marked run j h =
    let r : ℕ = 4 * (j / 12) in
    let e : ℕ = coder_of 0 j in
    ap₂ ◌||◌ (none_was run r e h) (ap₂ ◌||◌ (none_was run (r + 1) e h) (ap₂ ◌||◌ (none_was run (r + 2) e h)
    (ap₂ ◌||◌ (none_was run (r + 3) e h) (none_was run (r + 4) e h))))

none_marks : (run : List (List ℤ)) (k : ℕ) → AllThere run → lost (marks_at (marks_in run) k) ≡ 0
unfolding marks_at marks_in
none_marks run k h = lost_none (marks_at (marks_in run) k)
    (none_map (λ p. get_or (marks_in run) (codeword_byte_place 52 4 p) false) (range_with_len (207 * k) 207)
    (λ p. none_at (marks_in run) (codeword_byte_place 52 4 p)
    (none_map (is_marked run) (range_with_len 0 (length (bytes_in run))) (λ j. none_marked run j h))))

packet_same : (run : List (List ℤ)) (k : ℕ) → AllThere run → mended_at (bytes_in run) (marks_in run) k
    ≡ received_at (bytes_in run) k
unfolding mended_at received_at
packet_same run k h = ap (received_by (187 * (k % 312)) (word_at 207 52 4 (bytes_in run) k))
    (unmarked_mending 207 187 (marks_at (marks_in run) k) (word_at 207 52 4 (bytes_in run) k) (omega arith)
    (length-word 207 52 4 (bytes_in run) k) (length-marks (marks_in run) k) (none_marks run k h))

map_same : (f g : ℕ → Received) (xs : List ℕ) → ((i : ℕ) → f i ≡ g i) → map f xs ≡ map g xs
map_same f g [] h = refl
map_same f g (x ∷ xs) h = ap₂ (λ (r : Received) (rs : List Received). r ∷ rs) (h x) (map_same f g xs h)

run_same : (run : List (List ℤ)) → AllThere run → mended_run run ≡ run_packets (bytes_in run)
unfolding mended_run_packets run_packets
run_same run h = map_same (mended_at (bytes_in run) (marks_in run)) (received_at (bytes_in run))
    (filter (is_complete (length (bytes_in run))) (range_with_len 0 (length (bytes_in run) / 207)))
    (λ k. packet_same run k h)

early_same : (run : List (List ℤ)) → AllThere run → mended_run_early run ≡ early_of (bytes_in run)
unfolding mended_early early_of
early_same run h = map_same (mended_at (bytes_in run) (marks_in run)) (received_at (bytes_in run))
    (range_with_len 0 (length (bytes_in run) / 207 - 52)) (λ k. packet_same run k h)

-- ---- the runs of segments of which no symbol is missing

abbrev AllRuns : List (List (List ℤ)) → Type 0
AllRuns rs = AllByRecursion (λ r. AllThere r) rs

record Fine (t : Tracked) : Type 0 where
  ended : AllRuns t.ended
  run : IfSome t.run (λ r. AllThere r)

fine_next : (ended : List (List (List ℤ))) (o : Option (List (List ℤ))) (x : List ℤ) → AllRuns ended
    → IfSome o (λ r. AllThere r) → AreThere x → Fine (followed ended o x)
fine_next ended None x h k l = by_looks (looks_like x)
  where
    by_looks : (t : Bool) → Fine (record { ended = ended; run = cond t (Some (x ∷ [])) None })
    by_looks true = record { ended = h; run = (l, tt) }
    by_looks false = record { ended = h; run = tt }
fine_next ended (Some r) x h k l = by_tests (sync_due r) (looks_like x)
  where
    by_tests : (d t : Bool) → Fine (cond d (cond t (record { ended = ended; run = Some (r ++ x ∷ []) })
        (record { ended = ended ++ r ∷ []; run = None })) (record { ended = ended; run = Some (r ++ x ∷ []) }))
    by_tests true true = record { ended = h; run = all_both AreThere r (x ∷ []) k (l, tt) }
    by_tests true false = record { ended = all_both AllThere ended (r ∷ []) h (k, tt); run = tt }
    by_tests false t = record { ended = h; run = all_both AreThere r (x ∷ []) k (l, tt) }

fine_all : (xs : List (List ℤ)) (t : Tracked) → Fine t → AllThere xs
    → Fine (fold (λ (u : Tracked) (x : List ℤ). followed u.ended u.run x) t xs)
fine_all [] t h k = h
fine_all (x ∷ xs) t h k = fine_all xs (followed t.ended t.run x) (fine_next t.ended t.run x h.ended h.run k.0) k.1

fine : (segments : List (List ℤ)) → AllThere segments → Fine (tracked segments)
unfolding tracked
fine segments h = fine_all segments (record { ended = []; run = None }) (record { ended = tt; run = tt }) h

flat_same : (f g : List (List ℤ) → List Received) (rs : List (List (List ℤ))) → AllRuns rs
    → ((r : List (List ℤ)) → AllThere r → f r ≡ g r) → flat_map f rs ≡ flat_map g rs
flat_same f g [] h e = refl
flat_same f g (r ∷ rs) h e = ap₂ (λ (a b : List Received). a ++ b) (e r h.0) (flat_same f g rs h.1 e)

on_list : (o : Option (List (List ℤ))) → IfSome o (λ r. AllThere r) → AllRuns (option_to_list o)
on_list None h = tt
on_list (Some r) h = (h, tt)

pub all_same : (segments : List (List ℤ)) → AllThere segments → all_mended segments ≡ all_packets segments
unfolding all_mended all_packets runs
all_same segments h =
    let f : Fine (tracked segments) = fine segments h in
    flat_same mended_run (λ run. run_packets (bytes_in run)) (runs segments)
    (all_both AllThere (tracked segments).ended (option_to_list (tracked segments).run) f.ended
    (on_list (tracked segments).run f.run)) run_same

pub so_far_same : (segments : List (List ℤ)) → AllThere segments → mended_so_far segments ≡ packets_so_far segments
unfolding mended_so_far packets_so_far
so_far_same segments h =
    let f : Fine (tracked segments) = fine segments h in
    ap₂ (λ (a b : List Received). a ++ b)
    (flat_same mended_run (λ run. run_packets (bytes_in run)) (tracked segments).ended f.ended run_same)
    (flat_same mended_run_early (λ run. early_of (bytes_in run)) (option_to_list (tracked segments).run)
    (on_list (tracked segments).run f.run) early_same)

pub bytes_same : (segments : List (List ℤ)) → AllThere segments → mended segments ≡ received segments
unfolding mended received
bytes_same segments h = ap (map (λ (r : Received). r.packet.0)) (all_same segments h)
