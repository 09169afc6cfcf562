-- Front parts of what the transmitters send and of their logs.
use Rattle.std.proofs.Common.{◌≡◌, ℕ, suc, List, [], ◌∷◌, ◌++◌, length, refl, sym, ap, subst, ◌∙◌, inl, inr, arith}
use Rattle.std.proofs.Common.{append_assoc}
use Rattle.std.specs.Prelude.{Option, Some, None}
use Rattle.std.specs.Option.{option_map}
use Rattle.std.proofs.lemmas.Bool.{cases_eq}
use Rattle.std.proofs.lemmas.List.{append-nil}
use Rattle.dtx_exciter.specs.Emission.{last_segments}
use Rattle.dtx_exciter.specs.Log.{restart, line_of}
use Rattle.dtx_exciter.specs.Packets.{last_answer}
use Rattle.dtx_files.proofs.AppendedLemmas.{segment_bytes-append, log_text-append}
use Rattle.dtx_files.specs.LogText.{log_text}
use Rattle.dtx_files.specs.Symbols.{segment_bytes}
use Rattle.dtx_meaning.specs.Meaning.{ArePartWritten, IsFrontOf, with_outputs}
use Rattle.dtx_net.specs.Lives.{last_life, sent_segments, lines_of}
use Rattle.dtx_net.specs.Steps.{Step}
use Rattle.dtx_net.proofs.GrowsLemmas.{segments_given, lines_given, segments_restarted, lines_restarted}
use Rattle.dtx_outside.specs.Shelf.{Files, with_file}
use Rattle.dtx_plan.specs.declared.transmitter.Transmitter.{Transmitter}
use Rattle.dtx_words.specs.Names.{symbol_name, log_name}
use Rattle.dtx_schedule.specs.PlayedSoFar.{IsUnderWay}
use Rattle.dtx_schedule.specs.TransmitterFiles.{AreFronts, Contents, files_of, log_file, nothing, played}
use Rattle.dtx_schedule.specs.TransmitterFiles.{played_outputs, symbol_file}
use Rattle.dtx_schedule.proofs.Elsewhere.{log_elsewhere, symbols_elsewhere}

-- ---- of bytes

pub front_same : (a : List ℕ) → IsFrontOf a a
front_same a = ([], append-nil a)

pub front_of_same : (a b : List ℕ) → a ≡ b → IsFrontOf a b
front_of_same a b same = ([], append-nil a ∙ same)

front_then : (a b c : List ℕ) → IsFrontOf a b → IsFrontOf b c → IsFrontOf a c
front_then a b c (r, first) (s, second) = (r ++ s, sym (append_assoc a r s) ∙ ap (λ z. z ++ s) first ∙ second)

pub front_behind : (a part bytes whole : List ℕ) → whole ≡ a ++ bytes → IsFrontOf part bytes
    → IsFrontOf (a ++ part) whole
front_behind a part bytes whole is (rest, e) = (rest, append_assoc a part rest ∙ ap (λ z. a ++ z) e ∙ sym is)

pub front_added : (a part : List ℕ) → IsFrontOf a (a ++ part)
front_added a part = (part, refl)

-- ---- of the files of all

pub fronts_then : (ts : List Transmitter) (f g h : Contents) → AreFronts ts f g → AreFronts ts g h → AreFronts ts f h
fronts_then ts f g h first second = λ who t at_t. (
  front_then (f who t).0 (g who t).0 (h who t).0 (first who t at_t).0 (second who t at_t).0,
  front_then (f who t).1 (g who t).1 (h who t).1 (first who t at_t).1 (second who t at_t).1,
)

pub nothing_first : (ts : List Transmitter) (f : Contents) → AreFronts ts nothing f
nothing_first ts f = λ who t at_t. (((f who t).0, refl), ((f who t).1, refl))

part_of_fronts : (ts : List Transmitter) (fewer more : Contents) (start now : Option Files) → AreFronts ts fewer more
    → now ≡ with_outputs (files_of fewer ts) start → ArePartWritten (files_of more ts) start now
part_of_fronts [] fewer more start now fronts is = is
part_of_fronts (t ∷ ts) fewer more start now fronts is = inr (
  (fewer 0 t).0,
  (fronts 0 t refl).0,
  inr (
    (fewer 0 t).1,
    (fronts 0 t refl).1,
    part_of_fronts ts (λ who. fewer (suc who)) (λ who. more (suc who))
        (option_map (with_file (log_name t.address) (fewer 0 t).1)
        (option_map (with_file (symbol_name t.address) (fewer 0 t).0) start)) now
        (λ who u at_u. fronts (suc who) u at_u) is,
  ),
)

pub parts_grow : (ts : List Transmitter) (fewer more : Contents) (start now : Option Files) → AreFronts ts fewer more
    → ArePartWritten (files_of fewer ts) start now → ArePartWritten (files_of more ts) start now
parts_grow [] fewer more start now fronts part = part
parts_grow (t ∷ ts) fewer more start now fronts part = elim part [
  | inl same ↦ inl same
  | inr one ↦ inr (
    one.0,
    front_then one.0 (fewer 0 t).0 (more 0 t).0 one.1 (fronts 0 t refl).0,
    elim one.2 [
      | inl same ↦ inl same
      | inr two ↦ inr (
        two.0,
        front_then two.0 (fewer 0 t).1 (more 0 t).1 two.1 (fronts 0 t refl).1,
        parts_grow ts (λ who. fewer (suc who)) (λ who. more (suc who))
            (option_map (with_file (log_name t.address) two.0)
            (option_map (with_file (symbol_name t.address) one.0) start)) now
            (λ who u at_u. fronts (suc who) u at_u) two.2,
      )
    ],
  )
]

-- ---- more steps

abbrev step_at : ℕ → Option (List ℕ) → Step
step_at who packet = record { who = who; packet = packet }

own_more : (t : Transmitter) (who : ℕ) (steps : List Step) (packet : Option (List ℕ))
    → IsFrontOf (symbol_file t who steps) (symbol_file t who (steps ++ step_at who packet ∷ []))
    × IsFrontOf (log_file t who steps) (log_file t who (steps ++ step_at who packet ∷ []))
unfolding symbol_file log_file
own_more t who steps (Some p) =
    let life : List (List ℕ) = last_life who steps ++ p ∷ [] in
    let lines = line_of (length (sent_segments t who steps)) (length (last_segments t.address t.delay life))
    (last_answer t.address t.delay life) in (
      (
        segment_bytes (last_segments t.address t.delay life),
        sym (ap segment_bytes (segments_given t who steps p)
            ∙ segment_bytes-append (sent_segments t who steps) (last_segments t.address t.delay life)),
      ),
      (log_text lines, sym (ap log_text (lines_given t who steps p) ∙ log_text-append (lines_of t who steps) lines)),
    )
own_more t who steps None = (
  front_of_same (segment_bytes (sent_segments t who steps)) _ (sym (ap segment_bytes (segments_restarted t who steps))),
  (
    log_text (restart (length (sent_segments t who steps)) ∷ []),
    sym (ap log_text (lines_restarted t who steps)
        ∙ log_text-append (lines_of t who steps) (restart (length (sent_segments t who steps)) ∷ [])),
  ),
)

one_more : (t : Transmitter) (who : ℕ) (steps : List Step) (step : Step)
    → IsFrontOf (symbol_file t who steps) (symbol_file t who (steps ++ step ∷ []))
    × IsFrontOf (log_file t who steps) (log_file t who (steps ++ step ∷ []))
one_more t who steps step = elim (cases_eq step.who who) [
  | inl same ↦ subst (λ i. IsFrontOf (symbol_file t i steps) (symbol_file t i (steps ++ step ∷ []))
      × IsFrontOf (log_file t i steps) (log_file t i (steps ++ step ∷ []))) same (own_more t step.who steps step.packet)
  | inr n ↦ (
    front_of_same _ _ (sym (symbols_elsewhere t who steps step n)),
    front_of_same _ _ (sym (log_elsewhere t who steps step n)),
  )
]

pub steps_grow : (ts : List Transmitter) (steps more : List Step) → AreFronts ts (played steps) (played (steps ++ more))
steps_grow ts steps [] = grind (arith, front_of_same, append-nil)
steps_grow ts steps (step ∷ more) =
    subst (λ (all : List Step). AreFronts ts (played steps) (played all)) (append_assoc steps (step ∷ []) more)
    (fronts_then ts (played steps) (played (steps ++ step ∷ [])) (played ((steps ++ step ∷ []) ++ more))
    (λ who t at_t. one_more t who steps step) (steps_grow ts (steps ++ step ∷ []) more))

-- ---- where a schedule was broken off

-- between two steps
pub at_rest : (ts : List Transmitter) (done rest : List Step) (held : Files) (now : Option Files)
    → now ≡ with_outputs (played_outputs ts done) (Some held) → IsUnderWay ts (done ++ rest) held now
at_rest ts done rest held now is = record {
  done = done;
  next = [];
  rest = rest;
  whole = refl;
  one = omega arith;
  contents = played done;
  least = λ who t at_t. (front_same (symbol_file t who done), front_same (log_file t who done));
  most = steps_grow ts done [];
  files = is;
}

pub under_way_more : (ts : List Transmitter) (steps more : List Step) (held : Files) (now : Option Files)
    → IsUnderWay ts steps held now → IsUnderWay ts (steps ++ more) held now
under_way_more ts steps more held now is = record {
  done = is.done;
  next = is.next;
  rest = is.rest ++ more;
  whole = rw (← append_assoc is.next is.rest more, ← append_assoc is.done (is.next ++ is.rest) more, is.whole);
  one = is.one;
  contents = is.contents;
  least = is.least;
  most = is.most;
  files = is.files;
}

pub part_under_way : (ts : List Transmitter) (steps : List Step) (held : Files) (now : Option Files)
    → IsUnderWay ts steps held now → ArePartWritten (played_outputs ts steps) (Some held) now
part_under_way ts steps held now is = part_of_fronts ts is.contents (played steps) (Some held) now
    (fronts_then ts is.contents (played (is.done ++ is.next)) (played steps) is.most
    (subst (λ (s : List Step). AreFronts ts (played (is.done ++ is.next)) (played s))
    (append_assoc is.done is.next is.rest ∙ is.whole) (steps_grow ts (is.done ++ is.next) is.rest))) is.files
