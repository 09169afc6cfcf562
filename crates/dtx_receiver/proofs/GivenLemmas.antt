-- What is given of runs with one segment more, whichever packets a run gives.
use Rattle.std.proofs.Common.{◌≡◌, ℤ, Option, Some, None, List, [], ◌∷◌, ◌++◌, refl, sym, ap, ◌∙◌, append_assoc, arith}
use Rattle.std.specs.Prelude.{option_to_list}
use Rattle.std.specs.List.{flat_map}
use Rattle.std.proofs.lemmas.List.{append-nil}
use Rattle.std.proofs.lemmas.Grind.{flat_map-append}
use Rattle.dtx_receiver.specs.declared.batch.Received.{Received}
use Rattle.dtx_receiver.specs.Runs.{Tracked, tracked, runs}
use Rattle.dtx_receiver.specs.Bytes.{bytes_in}
use Rattle.dtx_receiver.specs.Packets.{run_packets, early_of, all_packets, packets_so_far}
use Rattle.dtx_receiver.specs.Receiver.{AreGiven}
use Rattle.dtx_receiver.proofs.EarlyLemmas.{early_nothing}
use Rattle.dtx_receiver.proofs.SegmentsLemmas.{first_bytes}

abbrev pub Packets : Type 0
Packets = List (List ℤ) → List Received

-- a receiver's
pub received_given : AreGiven (λ run. run_packets (bytes_in run)) (λ run. early_of (bytes_in run)) packets_so_far
    all_packets
unfolding packets_so_far all_packets
received_given = grind (arith, first_bytes, early_nothing)

given_with : Packets → Packets → List (List (List ℤ)) → Option (List (List ℤ)) → List Received
given_with whole early ended o = flat_map whole ended ++ flat_map early (option_to_list o)

given_is : {whole early given all : Packets} (g : AreGiven whole early given all) (s : List (List ℤ)) (t : Tracked)
    → tracked s ≡ t → given s ≡ given_with whole early t.ended t.run
unfolding given_with
given_is {whole} {early} g s t e = g.so_far s ∙ ap (λ (u : Tracked). given_with whole early u.ended u.run) e

some_is : (whole early : Packets) (ended : List (List (List ℤ))) (run : List (List ℤ))
    → given_with whole early ended (Some run) ≡ flat_map whole ended ++ early run
unfolding given_with
some_is whole early ended run = ap (λ xs. flat_map whole ended ++ xs) (append-nil (early run))

none_is : (whole early : Packets) (ended : List (List (List ℤ)))
    → given_with whole early ended None ≡ flat_map whole ended
unfolding given_with
none_is whole early ended = append-nil (flat_map whole ended)

given_run : {whole early given all : Packets} (g : AreGiven whole early given all) (s : List (List ℤ))
    (run : List (List ℤ)) → (tracked s).run ≡ Some run → given s ≡ flat_map whole (tracked s).ended ++ early run
given_run {whole} {early} g s run e = rw (given_is g s (tracked s) refl, e, some_is whole early (tracked s).ended run)

given_off : {whole early given all : Packets} (g : AreGiven whole early given all) (s : List (List ℤ))
    → (tracked s).run ≡ None → given s ≡ flat_map whole (tracked s).ended
given_off {whole} {early} g s e = rw (given_is g s (tracked s) refl, e, none_is whole early (tracked s).ended)

-- with more segments of the run that is on
pub given_further : {whole early given all : Packets} (g : AreGiven whole early given all)
    (s more run new : List (List ℤ)) (brought : List Received) → (tracked s).run ≡ Some run
    → tracked more ≡ record { ended = (tracked s).ended; run = Some new } → early new ≡ early run ++ brought
    → given more ≡ given s ++ brought
given_further {whole} {early} g s more run new brought e f h =
    given_is g more (record { ended = (tracked s).ended; run = Some new }) f
    ∙ some_is whole early (tracked s).ended new
    ∙ ap (λ xs. flat_map whole (tracked s).ended ++ xs) h
    ∙ sym (append_assoc (flat_map whole (tracked s).ended) (early run) brought)
    ∙ ap (λ xs. xs ++ brought) (sym (given_run g s run e))

pub given_on : {whole early given all : Packets} (g : AreGiven whole early given all) (s : List (List ℤ)) (x : List ℤ)
    (run new : List (List ℤ)) (brought : List Received) → (tracked s).run ≡ Some run
    → tracked (s ++ x ∷ []) ≡ record { ended = (tracked s).ended; run = Some new }
    → early new ≡ early run ++ brought → given (s ++ x ∷ []) ≡ given s ++ brought
given_on g s x run new brought e f h = given_further g s (s ++ x ∷ []) run new brought e f h

whole_run : {whole early given all : Packets} (g : AreGiven whole early given all) (s : List (List ℤ))
    (run : List (List ℤ)) (brought : List Received) → (tracked s).run ≡ Some run → whole run ≡ early run ++ brought
    → flat_map whole ((tracked s).ended ++ run ∷ []) ≡ given s ++ brought
whole_run {whole} {early} g s run brought e h = flat_map-append whole (tracked s).ended (run ∷ [])
    ∙ ap (λ xs. flat_map whole (tracked s).ended ++ xs) (append-nil (whole run) ∙ h)
    ∙ sym (append_assoc (flat_map whole (tracked s).ended) (early run) brought)
    ∙ ap (λ xs. xs ++ brought) (sym (given_run g s run e))

pub given_end : {whole early given all : Packets} (g : AreGiven whole early given all) (s : List (List ℤ)) (x : List ℤ)
    (run : List (List ℤ)) (brought : List Received) → (tracked s).run ≡ Some run
    → tracked (s ++ x ∷ []) ≡ record { ended = (tracked s).ended ++ run ∷ []; run = None }
    → whole run ≡ early run ++ brought → given (s ++ x ∷ []) ≡ given s ++ brought
given_end {whole} {early} g s x run brought e f h =
    given_is g (s ++ x ∷ []) (record { ended = (tracked s).ended ++ run ∷ []; run = None }) f
    ∙ none_is whole early ((tracked s).ended ++ run ∷ []) ∙ whole_run g s run brought e h

pub given_none : {whole early given all : Packets} (g : AreGiven whole early given all) (s : List (List ℤ))
    (x : List ℤ) → (tracked s).run ≡ None → tracked (s ++ x ∷ []) ≡ record { ended = (tracked s).ended; run = None }
    → given (s ++ x ∷ []) ≡ given s ++ []
given_none {whole} {early} {given} g s x e f = grind (arith, given_is, none_is, given_off, append-nil)

pub given_first : {whole early given all : Packets} (g : AreGiven whole early given all) (s : List (List ℤ))
    (x : List ℤ) → (tracked s).run ≡ None
    → tracked (s ++ x ∷ []) ≡ record { ended = (tracked s).ended; run = Some (x ∷ []) }
    → given (s ++ x ∷ []) ≡ given s ++ []
given_first {whole} {early} {given} g s x e f = grind (arith, given_is, some_is, append-nil, given_off)

-- with the end of the list
pub all_run : {whole early given all : Packets} (g : AreGiven whole early given all) (s : List (List ℤ))
    (run : List (List ℤ)) (brought : List Received) → (tracked s).run ≡ Some run → whole run ≡ early run ++ brought
    → all s ≡ given s ++ brought
unfolding runs
all_run {whole} g s run brought e h = grind (arith, whole_run)

pub all_none : {whole early given all : Packets} (g : AreGiven whole early given all) (s : List (List ℤ))
    → (tracked s).run ≡ None → all s ≡ given s ++ []
unfolding runs
all_none {whole} {early} {given} g s e = grind (arith, append-nil, given_off)
