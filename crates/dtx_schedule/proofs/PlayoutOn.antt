-- What is kept of a network, one step further.
use Rattle.std.proofs.Common.{◌≡◌, ◌⊎◌, ℕ, ℤ, ◌+◌, ◌*◌, ◌<◌, ◌≤◌, List, [], ◌∷◌, ◌++◌, refl, length, map, set, take}
use Rattle.std.proofs.Common.{get_or, replicate, pos, sym, ap, subst, ◌∙◌, inl, inr, arith}
use Rattle.std.specs.Prelude.{Option, Some, None, IfSome, slice_get, vec_len}
use Rattle.std.proofs.lemmas.Bool.{cases_eq}
use Rattle.std.proofs.lemmas.List.{append-nil, get_or-replicate, length-append, length-replicate, length-set}
use Rattle.std.proofs.lemmas.List.Sums.{sum_by-append}
use Rattle.std.proofs.lemmas.Option.{same_Some, slice_get-get_or, get_or_from_slice_get, slice_get_within}
use Rattle.dtx_exciter.specs.Emission.{last_segments}
use Rattle.dtx_exciter.specs.Log.{restart, line_of}
use Rattle.dtx_exciter.specs.Packets.{last_answer}
use Rattle.dtx_exciter.specs.declared.answers.Told.{Told}
use Rattle.dtx_files.proofs.AppendedLemmas.{segment_bytes-append, log_text-append}
use Rattle.dtx_files.proofs.GivenFewLemmas.{given_few}
use Rattle.dtx_files.specs.LogText.{log_text}
use Rattle.dtx_files.specs.Symbols.{byte_of_symbol, segment_bytes}
use Rattle.dtx_net.specs.Lives.{last_life, sent_segments, lines_of}
use Rattle.dtx_net.specs.Standing.{IsGiven}
use Rattle.dtx_net.specs.Steps.{Step, packet_step, transmitter_place, restart_step}
use Rattle.dtx_net.specs.declared.net.Net.{Net}
use Rattle.dtx_net.proofs.GrowsLemmas.{segments_given, lines_given, segments_restarted, lines_restarted}
use Rattle.dtx_net.proofs.PlacesLemmas.{set_here, set_elsewhere}
use Rattle.dtx_plan.specs.declared.transmitter.Transmitter.{Transmitter}
use Rattle.dtx_schedule.specs.Playout.{Brings, packets_given, AreSent, HasTransmitter, IsSomePlayout, SentBy}
use Rattle.dtx_schedule.specs.declared.playout.Playout.{Playout}
use Rattle.dtx_schedule.specs.TransmitterFiles.{symbol_file, log_file}
use Rattle.dtx_schedule.proofs.Elsewhere.{segments_elsewhere}
use Rattle.dtx_schedule.proofs.FilesLemmas.{no_segments}

-- ---- places

-- a transmitter that is found stands there
pub found_there : (playout : Playout) (found : Option ℕ) → IsSomePlayout playout
    → IfSome found (λ who. who < vec_len playout.net.exciters) → IfSome found (λ who. HasTransmitter who playout)
found_there playout None some within = tt
found_there playout (Some who) some within = record {
  ts = some.ts;
  steps = some.steps;
  playing = some.playing;
  within = let long = some.playing.net.long in omega (arith, long, within);
}

-- what the transmitter of an address has sent, by its place
pub sent_by : (address who : ℕ) (ts : List Transmitter) (steps : List Step) (sent : List ℕ) → AreSent ts steps sent
    → transmitter_place address ts ≡ Some who → SentBy address ts steps (get_or sent who 0)
sent_by address who ts steps sent is place =
    subst (λ (found : Option ℕ). IfSome found (λ who'. (t : Transmitter) → slice_get ts who' ≡ Some t
    → get_or sent who 0 ≡ length (sent_segments t who' steps)))
    (sym place) (λ t at_t. get_or_from_slice_get sent who _ 0 (is.each who t at_t))

pub sent_by_none : (address n : ℕ) (ts : List Transmitter) (steps : List Step) → transmitter_place address ts ≡ None
    → SentBy address ts steps n
sent_by_none address n ts steps place =
    subst (λ (found : Option ℕ). IfSome found (λ who. (t : Transmitter) → slice_get ts who ≡ Some t
    → n ≡ length (sent_segments t who steps))) (sym place) tt

-- ---- what was sent is counted

-- where the transmitter of the step sent so many more
abbrev SendsMore : List Transmitter → List Step → Step → ℕ → Type 0
SendsMore ts steps step count = (t : Transmitter) → slice_get ts step.who ≡ Some t
    → length (sent_segments t step.who (steps ++ step ∷ [])) ≡ length (sent_segments t step.who steps) + count

pub sent_more : (ts : List Transmitter) (steps : List Step) (step : Step) (sent : List ℕ) (count : ℕ)
    → AreSent ts steps sent → SendsMore ts steps step count
    → AreSent ts (steps ++ step ∷ []) (set sent step.who (get_or sent step.who 0 + count))
sent_more ts steps step sent count is more = record {
  long = length-set sent step.who (get_or sent step.who 0 + count) ∙ is.long;
  each = λ who t at_t. each who t at_t (cases_eq who step.who);
}
  where
    each : (who : ℕ) (t : Transmitter) → slice_get ts who ≡ Some t → (who ≡ step.who) ⊎ (who ≡ step.who → ⊥)
        → slice_get (set sent step.who (get_or sent step.who 0 + count)) who
        ≡ Some (length (sent_segments t who (steps ++ step ∷ [])))
    each who t at_t (inl same) = grind (arith, set_here, slice_get_within, get_or_from_slice_get)
    each who t at_t (inr n) = set_elsewhere sent step.who who (get_or sent step.who 0 + count) n ∙ is.each who t at_t
        ∙ ap (λ (segments : List (List ℤ)). Some (length segments))
        (sym (segments_elsewhere t who steps step (λ same. n (sym same))))

pub few_more : (sent : List ℕ) (i count most : ℕ) → i < length sent → count ≤ 5
    → ((who : ℕ) (n : ℕ) → slice_get sent who ≡ Some n → n ≤ 5 * most)
    → (who : ℕ) (n : ℕ) → slice_get (set sent i (get_or sent i 0 + count)) who ≡ Some n → n ≤ 5 * (most + 1)
few_more sent i count most l five few who n at_n =
    grind (arith, cases_eq, same_Some, set_here, slice_get-get_or, set_elsewhere)

pub given_sends : (ts : List Transmitter) (steps : List Step) (who : ℕ) (packet : List ℕ) (count : ℕ)
    → ((t : Transmitter) → slice_get ts who ≡ Some t
    → count ≡ length (last_segments t.address t.delay (last_life who steps ++ packet ∷ [])))
    → SendsMore ts steps (packet_step who packet) count
given_sends ts steps who packet count counted = λ t at_t.
    let more : List (List ℤ) = last_segments t.address t.delay (last_life who steps ++ packet ∷ []) in
    ap (λ (segments : List (List ℤ)). length segments) (segments_given t who steps packet)
    ∙ length-append (sent_segments t who steps) more
    ∙ ap (λ n. length (sent_segments t who steps) + n) (sym (counted t at_t))

-- a packet brings at most five segments
pub brings_few : (ts : List Transmitter) (steps : List Step) (who : ℕ) (packet : List ℕ) (answered : Told) (count : ℕ)
    (symbols : List ℤ) (net : Net) → who < length ts
    → ((t : Transmitter) → slice_get ts who ≡ Some t → IsGiven ts steps who t packet net answered count symbols)
    → count ≤ 5
brings_few ts steps who packet answered count symbols net within gives =
    let t : Transmitter = get_or ts who (record { address = 0; offset = pos 0; delay = 0 }) in
    omega (
      arith,
      (gives t (slice_get-get_or ts who _ within)).air.counted,
      given_few t.address t.delay (last_life who steps ++ packet ∷ []),
    )

-- a restart sends nothing
pub sent_restarted : (ts : List Transmitter) (steps : List Step) (who : ℕ) (sent : List ℕ) → AreSent ts steps sent
    → AreSent ts (steps ++ restart_step who ∷ []) sent
sent_restarted ts steps who sent is = grind (arith, cases_eq, segments_restarted, segments_elsewhere)

-- nothing was sent yet
pub none_sent : (ts : List Transmitter) (sent : List ℕ) → sent ≡ replicate (length ts) 0 → AreSent ts [] sent
none_sent ts sent is = record {
  long = ap length is ∙ length-replicate {A = ℕ} (length ts) 0;
  each = λ who t at_t. each who t (slice_get_within ts who t at_t);
}
  where
    each : (who : ℕ) (t : Transmitter) → who < length ts → slice_get sent who ≡ Some (length (sent_segments t who []))
    each who t l = grind (arith, slice_get-get_or, length-replicate) ∙ ap Some (get_or-replicate (length ts) who 0 0 l
        ∙ sym (ap (λ (segments : List (List ℤ)). length segments) (no_segments t who)))

pub none_few : (ts : List Transmitter) (sent : List ℕ) → sent ≡ replicate (length ts) 0 → (who : ℕ) (n : ℕ)
    → slice_get sent who ≡ Some n → n ≤ 5 * 0
none_few ts sent is who n at_n =
    let here : slice_get (replicate (length ts) 0) who ≡ Some n = sym (ap (λ (ns : List ℕ). slice_get ns who) is)
    ∙ at_n in
    let within : who < length ts = grind (arith, slice_get_within, length-replicate) in
    omega (
      arith,
      get_or-replicate {A = ℕ} (length ts) who 0 0 within,
      get_or_from_slice_get (replicate (length ts) 0) who n 0 here,
    )

-- ---- what a step brings

pub given_brings : (ts : List Transmitter) (steps : List Step) (who : ℕ) (packet sent : List ℕ) (answered : Told)
    (count : ℕ) (symbols : List ℤ) (net : Net) (bytes line : List ℕ) → AreSent ts steps sent
    → ((t : Transmitter) → slice_get ts who ≡ Some t → IsGiven ts steps who t packet net answered count symbols)
    → bytes ≡ map byte_of_symbol (take (832 * count) symbols)
    → line ≡ log_text (line_of (get_or sent who 0) count answered) → Brings ts steps (packet_step who packet) bytes line
unfolding symbol_file log_file
given_brings ts steps who packet sent answered count symbols net bytes line is gives bytes_are line_is = record {
  sent = λ t at_t.
      let more : List (List ℤ) = last_segments t.address t.delay (last_life who steps ++ packet ∷ []) in
      ap segment_bytes (segments_given t who steps packet) ∙ segment_bytes-append (sent_segments t who steps) more
      ∙ ap (λ z. segment_bytes (sent_segments t who steps) ++ z) (sym (bytes_are
      ∙ ap (map byte_of_symbol) (gives t at_t).air.begins));
  logged = λ t at_t.
      let life : List (List ℕ) = last_life who steps ++ packet ∷ [] in
      let n : ℕ = length (sent_segments t who steps) in
      let m : ℕ = length (last_segments t.address t.delay life) in
      ap log_text (lines_given t who steps packet)
      ∙ log_text-append (lines_of t who steps) (line_of n m (last_answer t.address t.delay life))
      ∙ ap (λ z. log_text (lines_of t who steps) ++ z) (sym (line_is
      ∙ ap (λ k. log_text (line_of k count answered)) (get_or_from_slice_get sent who n 0 (is.each who t at_t))
      ∙ ap (λ k. log_text (line_of n k answered)) (gives t at_t).air.counted
      ∙ ap (λ a. log_text (line_of n m a)) (gives t at_t).answer));
}

pub restart_brings : (ts : List Transmitter) (steps : List Step) (who : ℕ) (sent line : List ℕ) → AreSent ts steps sent
    → line ≡ log_text (restart (get_or sent who 0) ∷ []) → Brings ts steps (restart_step who) [] line
unfolding symbol_file log_file
restart_brings ts steps who sent line is line_is = record {
  sent = λ t at_t. ap segment_bytes (segments_restarted t who steps)
      ∙ sym (append-nil (segment_bytes (sent_segments t who steps)));
  logged = λ t at_t.
      let n : ℕ = length (sent_segments t who steps) in
      ap log_text (lines_restarted t who steps) ∙ log_text-append (lines_of t who steps) (restart n ∷ [])
      ∙ ap (λ z. log_text (lines_of t who steps) ++ z) (sym (line_is
      ∙ ap (λ k. log_text (restart k ∷ [])) (get_or_from_slice_get sent who n 0 (is.each who t at_t))));
}

-- ---- a packet more is counted, and a restart isn't

pub none_given : packets_given [] ≡ 0
unfolding packets_given
none_given = refl

pub given_packet : (steps : List Step) (who : ℕ) (packet : List ℕ)
    → packets_given (steps ++ packet_step who packet ∷ []) ≡ packets_given steps + 1
unfolding packets_given
given_packet steps who packet = grind (arith, sum_by-append)

pub given_restart : (steps : List Step) (who : ℕ) → packets_given (steps ++ restart_step who ∷ []) ≡ packets_given steps
unfolding packets_given
given_restart steps who = grind (arith, sum_by-append)
