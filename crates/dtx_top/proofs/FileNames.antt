-- The names of a network's files, and which of them comes twice.
use Rattle.std.proofs.Common.{◌≡◌, ◌≢◌, ℕ, suc, ◌+◌, ◌<◌, ◌^◌, ◌⊎◌, inl, inr, Bool, true, false, ◌||◌, cond, Option}
use Rattle.std.proofs.Common.{Some, None, List, [], ◌∷◌, ◌++◌, length, take, get_or, refl, sym, ap, ap₂, subst, ◌∙◌}
use Rattle.std.proofs.Common.{arith}
use Rattle.std.specs.Prelude.{All, find, slice_get}
use Rattle.std.specs.List.{Contains, list_any}
use Rattle.std.specs.Option.{option_map, option_or}
use Rattle.std.specs.Str.{bytes_eq}
use Rattle.std.proofs.Math.Seq.{take-suc}
use Rattle.std.proofs.lemmas.Bool.{cond-false, or_from}
use Rattle.std.proofs.lemmas.Grind.{flat_map-append}
use Rattle.std.proofs.lemmas.List.{append-nil, append_assoc}
use Rattle.std.proofs.lemmas.List.Elements.{All-get_or, All-push, Contains-append_cases, Contains-push_cases}
use Rattle.std.proofs.lemmas.List.Folds.{find-append, list_any-append}
use Rattle.std.proofs.lemmas.Option.{get_or_from_slice_get, slice_get_within}
use Rattle.std.proofs.lemmas.Slice.Eq.{bytes_eq-Decides}
use Rattle.dtx_plan.specs.Sound.{IsSound}
use Rattle.dtx_plan.specs.declared.plan.NetPlan.{NetPlan}
use Rattle.dtx_plan.specs.declared.plan.Plan.{Plan}
use Rattle.dtx_plan.specs.declared.transmitter.Transmitter.{Transmitter}
use Rattle.dtx_schedule.proofs.FilesLemmas.{AreApart, apart_of}
use Rattle.dtx_schedule.specs.TransmitterFiles.{transmitter_names}
use Rattle.dtx_words.specs.Names.{repeated, repeated_after, feed_name, log_name, received_name, symbol_name}
use Rattle.dtx_words.proofs.NetworkNamesLemmas.{logs_differ, symbols_differ, symbols_no_logs}
use Rattle.dtx_top.specs.NetNames.{is_given}
use Rattle.dtx_top.specs.Networks.{network_names, received_names, written_names}

-- ---- which of them comes twice

-- a name is none of these
abbrev IsNew : List (List ℕ) → List ℕ → Type 0
IsNew earlier name = list_any (λ first. bytes_eq first name) earlier ≡ false

differs : (first second : List ℕ) → (first ≡ second → ⊥) → bytes_eq first second ≡ false
differs first second other = grind (arith, bytes_eq-Decides)

new_behind : (earlier : List (List ℕ)) (last name : List ℕ) → IsNew earlier name → (last ≡ name → ⊥)
    → IsNew (earlier ++ last ∷ []) name
new_behind earlier last name new other = grind (arith, list_any-append, or_from, differs)

past : (earlier names : List (List ℕ)) (name : List ℕ) → IsNew earlier name
    → repeated_after (earlier ++ name ∷ []) names ≡ None → repeated_after earlier (name ∷ names) ≡ None
past earlier names name new later = grind (arith, cond-false)

-- the names of the files of these transmitters are none of these
abbrev AreNew : List Transmitter → List (List ℕ) → Type 0
AreNew ts earlier = (who : ℕ) (t : Transmitter) → slice_get ts who ≡ Some t
    → IsNew earlier (symbol_name t.address) × IsNew earlier (log_name t.address)

apart_behind : (t : Transmitter) (ts : List Transmitter) → AreApart (t ∷ ts) → AreApart ts
apart_behind t ts apart = record {
  differ = λ who other u v at_u at_v n.
      apart.differ (suc who) (suc other) u v at_u at_v (λ same. n (omega (arith, same)));
  small = λ who u at_u. apart.small (suc who) u at_u;
}

new_behind_own : (t : Transmitter) (ts : List Transmitter) (earlier : List (List ℕ)) → AreApart (t ∷ ts)
    → AreNew (t ∷ ts) earlier → AreNew ts ((earlier ++ symbol_name t.address ∷ []) ++ log_name t.address ∷ [])
new_behind_own t ts earlier apart new who u at_u =
    let symbols : List ℕ = symbol_name t.address in
    let log : List ℕ = log_name t.address in
    let small : t.address < 2 ^ 16 = apart.small 0 t refl in
    let other : t.address ≡ u.address → ⊥ = apart.differ 0 (suc who) t u refl at_u (λ same. omega (arith, same)) in (
      new_behind (earlier ++ symbols ∷ []) log (symbol_name u.address)
          (new_behind earlier symbols (symbol_name u.address) (new (suc who) u at_u).0
          (λ same. other (symbols_differ t.address u.address small (apart.small (suc who) u at_u) same)))
          (λ same. symbols_no_logs u.address t.address (sym same)),
      new_behind (earlier ++ symbols ∷ []) log (log_name u.address)
          (new_behind earlier symbols (log_name u.address) (new (suc who) u at_u).1
          (symbols_no_logs t.address u.address))
          (λ same. other (logs_differ t.address u.address small (apart.small (suc who) u at_u) same)),
    )

-- the names of the files of transmitters come once each
sent_once : (ts : List Transmitter) (earlier rest : List (List ℕ)) → AreApart ts → AreNew ts earlier
    → repeated_after (earlier ++ transmitter_names ts) rest ≡ None
    → repeated_after earlier (transmitter_names ts ++ rest) ≡ None
sent_once [] earlier rest apart new none = subst (λ names. repeated_after names rest ≡ None) (append-nil earlier) none
sent_once (t ∷ ts) earlier rest apart new none =
    let symbols : List ℕ = symbol_name t.address in
    let log : List ℕ = log_name t.address in
    let own = new 0 t refl in
    past earlier (log ∷ (transmitter_names ts ++ rest)) symbols own.0
    (past (earlier ++ symbols ∷ []) (transmitter_names ts ++ rest) log
    (new_behind earlier symbols log own.1 (symbols_no_logs t.address t.address))
    (sent_once ts ((earlier ++ symbols ∷ []) ++ log ∷ []) rest (apart_behind t ts apart)
    (new_behind_own t ts earlier apart new) (grind (arith, append_assoc))))

-- a name that begins with another letter
unlike : (first second : List ℕ) → get_or first 0 0 ≢ get_or second 0 0 → bytes_eq first second ≡ false
unlike first second other = differs first second (λ same. other (ap (λ (text : List ℕ). get_or text 0 0) same))

-- what is received has a name of its own
received_new : (ts : List Transmitter) → IsNew (transmitter_names ts) received_name
received_new [] = refl
received_new (t ∷ ts) =
    let behind : Bool = list_any (λ first. bytes_eq first received_name) (transmitter_names ts) in
    or_from (bytes_eq (symbol_name t.address) received_name) (bytes_eq (log_name t.address) received_name || behind)
    (grind (arith, unlike)) (or_from (bytes_eq (log_name t.address) received_name) behind
    (unlike (log_name t.address) received_name (λ same. omega (arith, same))) (received_new ts))

-- so the names of the files that a network writes come once each
written_once : (plan : Plan) (network : NetPlan) → AreApart plan.transmitters
    → repeated (written_names plan network) ≡ None
written_once plan network apart = grind (arith, sent_once, or_from, unlike, past, received_new)

-- behind the plan and the stream, among names that come once each, the first that comes twice is one of those two
given_first : (plan stream : List ℕ) (earlier names : List (List ℕ)) → repeated_after earlier names ≡ None
    → repeated_after (plan ∷ stream ∷ earlier) names ≡ find (is_given plan stream) names
given_first plan stream earlier [] none = refl
given_first plan stream earlier (name ∷ names) none =
    choose (bytes_eq plan name) (bytes_eq stream name) (list_any (λ first. bytes_eq first name) earlier)
    (repeated_after (plan ∷ stream ∷ (earlier ++ name ∷ [])) names) (find (is_given plan stream) names)
    (repeated_after (earlier ++ name ∷ []) names) none (given_first plan stream (earlier ++ name ∷ []) names)
  where
    choose : (a b c : Bool) (rest found own : Option (List ℕ)) → cond c (Some name) own ≡ None
        → (own ≡ None → rest ≡ found) → cond (a || (b || c)) (Some name) rest ≡ cond (a || b) (Some name) found
    choose true b c rest found own once later = refl
    choose false true c rest found own once later = refl
    choose false false true rest found own once later = cc
    choose false false false rest found own once later = later once

-- ---- transmitter after transmitter

-- one transmitter behind the first n
next_of : (ts : List Transmitter) (n : ℕ) (d : Transmitter) → n < length ts
    → take (n + 1) ts ≡ take n ts ++ get_or ts n d ∷ []
next_of ts n d within = grind (arith, take-suc)

map_or : {X Y : Type 0} (f : X → Y) (first second : Option X)
    → option_map f (option_or first second) ≡ option_or (option_map f first) (option_map f second)
map_or f None second = refl
map_or f (Some x) second = refl

-- what is found among the names of the first n, or else among its own
pub found_next : {X : Type 0} (f : X → List ℕ) (p : List ℕ → Bool) (ts : List Transmitter) (n : ℕ) (d : Transmitter)
    (again own : Option X) → n < length ts → option_map f again ≡ find p (transmitter_names (take n ts))
    → option_map f own ≡ find p (symbol_name (get_or ts n d).address ∷ log_name (get_or ts n d).address ∷ [])
    → option_map f (option_or again own) ≡ find p (transmitter_names (take (n + 1) ts))
found_next f p ts n d again own within before here =
    let t : Transmitter = get_or ts n d in
    map_or f again own ∙ ap₂ option_or before here
    ∙ sym (ap (λ part. find p (transmitter_names part)) (next_of ts n d within)
    ∙ ap (find p) (flat_map-append (λ (t : Transmitter). symbol_name t.address ∷ log_name t.address ∷ []) (take n ts)
    (t ∷ []))
    ∙ find-append p (transmitter_names (take n ts)) (symbol_name t.address ∷ log_name t.address ∷ []))

-- addresses of 16 bits
abbrev pub AreSmall : List Transmitter → Type 0
AreSmall ts = All (λ (t : Transmitter). t.address < 2 ^ 16) ts

pub small_next : (ts : List Transmitter) (n : ℕ) (d : Transmitter) → n < length ts → AreSmall (take n ts)
    → (get_or ts n d).address < 2 ^ 16 → AreSmall (take (n + 1) ts)
small_next ts n d within before here = subst AreSmall (sym (next_of ts n d within))
    (All-push (λ (t : Transmitter). t.address < 2 ^ 16) (take n ts) (get_or ts n d) before here)

apart_sound : (plan : Plan) → IsSound plan → AreSmall plan.transmitters → AreApart plan.transmitters
apart_sound plan sound small =
    let ts : List Transmitter = plan.transmitters in
    apart_of ts sound.transmitters (λ who t at_t. grind (arith, get_or_from_slice_get, All-get_or, slice_get_within))

-- where neither the stream nor the feed does, what is found among the others
pub repeated_past : {X : Type 0} (f : X → List ℕ) (sent received now : Option X) (name : List ℕ) (plan : Plan)
    (network : NetPlan) → IsSound plan → AreSmall plan.transmitters → bytes_eq name network.stream ≡ false
    → is_given name network.stream feed_name ≡ false → now ≡ option_or sent received
    → option_map f sent ≡ find (is_given name network.stream) (transmitter_names plan.transmitters)
    → option_map f received ≡ find (is_given name network.stream) (received_names network.receive)
    → option_map f now ≡ repeated (network_names name plan network)
repeated_past f sent received now name plan network sound small own fed is of_sent of_received =
    grind (arith, map_or, given_first, written_once, apart_sound, find-append, cond-false)

-- ---- a name among others is found there

pub any_of : (earlier : List (List ℕ)) (name : List ℕ) → Contains earlier name
    → list_any (λ first. bytes_eq first name) earlier ≡ true
any_of [] name c = absurd (omega (arith, c.1))
any_of (first ∷ earlier) name c = by_place (any_of earlier name) (Contains-append_cases (first ∷ []) earlier name c)
  where
    by_test : (b : Bool) → list_any (λ other. bytes_eq other name) earlier ≡ true
        → (b || list_any (λ other. bytes_eq other name) earlier) ≡ true
    by_test true later = refl
    by_test false later = later

    first_is : Contains [] name ⊎ (first ≡ name)
        → (bytes_eq first name || list_any (λ other. bytes_eq other name) earlier) ≡ true
    first_is (inl c) = absurd (omega (arith, c.1))
    first_is (inr same) = grind (arith, bytes_eq-Decides)

    by_place : (Contains earlier name → list_any (λ other. bytes_eq other name) earlier ≡ true)
        → Contains (first ∷ []) name ⊎ Contains earlier name
        → (bytes_eq first name || list_any (λ other. bytes_eq other name) earlier) ≡ true
    by_place later (inl here) = first_is (Contains-push_cases [] first name here)
    by_place later (inr c) = by_test (bytes_eq first name) (later c)
